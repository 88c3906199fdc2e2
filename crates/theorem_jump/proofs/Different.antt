-- Different numbers below n are at most n. Assumes nothing.
use Prim.Native.Nat.{ℕ, zero, suc, ◌≤◌, ◌<◌, zero-le, suc-le-suc}
use native.Mathlib.Nat.{not-suc-le-zero}
use native.Mathlib.Omega.{arith}
use mathlib.Core.Path.{◌≡◌, refl, sym, ◌∙◌}
use mathlib.Core.Bool.{Bool, true, false, cond}
use lib.Dec.{eqb}
use borrow.Author.Tests.{eqb-true, eqb-false}

-- the first m numbers that f gives differ
abbrev pub Different : (ℕ → ℕ) → ℕ → Type 0
Different f m = (i j : ℕ) → i < j → j < m → f i ≡ f j → ⊥

-- one number fewer, and n is not among them: where n stood the last one stands
module _ (n m : ℕ) (f : ℕ → ℕ) (low : (i : ℕ) → i < suc m → f i < suc n) (d : Different f (suc m)) where
  abbrev without : ℕ → ℕ
  without i = cond (eqb (f i) n) (f m) (f i)

  low_by : (i : ℕ) → i < m → (t : Bool) → eqb (f i) n ≡ t → cond t (f m) (f i) < n
  low_by i h true e =
      let a : f i ≡ n = eqb-true (f i) n e in
      let b : f m < suc n = low m (omega arith) in
      let c : f i ≡ f m → ⊥ = d i m h (omega arith) in
      omega arith
  low_by i h false e =
      let a : f i ≡ n → ⊥ = eqb-false (f i) n e in
      let b : f i < suc n = low i (omega arith) in
      omega arith

  differ_by : (i j : ℕ) → i < j → j < m → (t u : Bool) → eqb (f i) n ≡ t → eqb (f j) n ≡ u → cond t (f m) (f i) ≡ cond u (f m) (f j) → ⊥
  differ_by i j h k true true a b e = d i j h (omega arith) (eqb-true (f i) n a ∙ sym (eqb-true (f j) n b))
  differ_by i j h k true false a b e = d j m k (omega arith) (sym e)
  differ_by i j h k false true a b e = d i m (omega arith) (omega arith) e
  differ_by i j h k false false a b e = d i j h (omega arith) e

pub at_most : (n m : ℕ) (f : ℕ → ℕ) → ((i : ℕ) → i < m → f i < n) → Different f m → m ≤ n
at_most n zero f low d = zero-le
at_most zero (suc m) f low d = absurd (not-suc-le-zero (low 0 (omega arith)))
at_most (suc n) (suc m) f low d =
    suc-le-suc
    (at_most n m (without n m f low d) (λ i h. low_by n m f low d i h (eqb (f i) n) refl)
    (λ i j h k. differ_by n m f low d i j h k (eqb (f i) n) (eqb (f j) n) refl refl))
