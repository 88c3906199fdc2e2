-- What holds of every size, said once: of these laws `sane`, `sized-is` and `sized-number` go by cases on a size, and every proof above cites
-- them.
-- Assumes nothing.
use Rattle.std.specs.Prelude.{Err, Ok}
use Prim.Native.Nat.{ℕ, ◌+◌, ◌%◌, ◌<◌, ◌≤◌}
use native.Mathlib.Omega.{arith}
use native.Mathlib.Nat.{mod-lt, mod-mod, mod-eq_of_lt, mod-add-mod, mod-mod_of_dvd, dvd_of_mod-eq-zero}
use mathlib.Core.Path.{◌≡◌, refl, sym, ap, ◌∙◌}
use mathlib.Core.Bool.{Bool, true, false, cond}
use lib.Dec.{eqb}
use borrow.Author.Tests.{eqb-true}
use Rattle.ground_refusals.specs.declared.Refusal.TheVariants.{WrongSize}
use Rattle.ground_setup.specs.declared.Size.{Size}
use Rattle.ground_setup.specs.declared.Size.TheVariants.{K4, K8}
use Rattle.ground_setup.specs.Setup.{size_of, sized_of, Inside, wrap_of, ahead_of}

-- what all else needs of a size
pub record Sane (n : ℕ) : Type 0 where
  pub many : 0x1000 ≤ n
  pub few : n ≤ 0x8000
  pub even : n % 2 ≡ 0

pub sane : (s : Size) → Sane (size_of s)
sane K4 = record { many = omega arith; few = omega arith; even = omega arith }
sane K8 = record { many = omega arith; few = omega arith; even = omega arith }

-- a size is what its number is taken for
pub sized_is : (s : Size) → sized_of (size_of s) ≡ Ok s
sized_is K4 = refl
sized_is K8 = refl

-- and a number that is taken for a size is its number
sized_by : (n : ℕ) (s : Size) (t u : Bool) → eqb n (size_of K4) ≡ t → eqb n (size_of K8) ≡ u
    → cond t (Ok K4) (cond u (Ok K8) (Err WrongSize)) ≡ Ok s → n ≡ size_of s
sized_by n s true u e f h = let same : K4 ≡ s = cc in eqb-true n (size_of K4) e ∙ ap size_of same
sized_by n s false true e f h = let same : K8 ≡ s = cc in eqb-true n (size_of K8) f ∙ ap size_of same
sized_by n s false false e f h = absurd (let z : ◌≡◌ {A = ℕ} 0 1 = cc in omega arith)

pub sized_number : (n : ℕ) (s : Size) → sized_of n ≡ Ok s → n ≡ size_of s
sized_number n s h = sized_by n s (eqb n (size_of K4)) (eqb n (size_of K8)) refl refl h

-- sizes of one number are one
pub same_size : (s t : Size) → size_of s ≡ size_of t → s ≡ t
same_size s t e = let same : Ok s ≡ Ok t = sym (sized_is s) ∙ ap sized_of e ∙ sized_is t in cc

module _ (s : Size) where
  pub positive : 0 < size_of s
  positive = omega (arith, sane s)

  -- `omega` takes `a % size_of s` as one unknown: this bound is what it is told of it
  pub below : (a : ℕ) → wrap_of s a < size_of s
  below a = mod-lt a positive

  pub inside : (a : ℕ) → Inside s (wrap_of s a)
  inside a = record { below = below a; short = omega (arith, sane s, below a) }

  pub wrap_twice : (a : ℕ) → wrap_of s (wrap_of s a) ≡ wrap_of s a
  wrap_twice a = mod-mod a (size_of s)

  pub wrap_same : (a : ℕ) → a < size_of s → wrap_of s a ≡ a
  wrap_same a h = mod-eq_of_lt h

  pub wrap_sum : (a k : ℕ) → ahead_of s a k ≡ wrap_of s (a + k)
  wrap_sum a k = mod-add-mod a (size_of s) k

  -- an even size keeps an address odd or even
  pub wrap_parity : (a : ℕ) → wrap_of s a % 2 ≡ a % 2
  wrap_parity a = mod-mod_of_dvd 2 a (dvd_of_mod-eq-zero 2 (sane s).even)
