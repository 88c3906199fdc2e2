-- The exact sum of a coordinate and an increment, told as 1,024 more: the ten bits that are cut from it, and whether it lies off the screen. Assumes
-- nothing.
use Prim.Native.Nat.{ℕ, suc, ◌+◌, ◌-◌, ◌/◌, ◌%◌, ◌≤◌, ◌<◌}
use native.Mathlib.Omega.{arith}
use mathlib.Core.Path.{◌≡◌, refl, sym, ap, ◌∙◌}
use mathlib.Core.Bool.{Bool, true, false, cond, not}
use lib.Dec.{eqb, ltb}
use lib.IntN.{ℤ, pos, negsuc, sub_ℕ, ◌+ℤ◌}
use borrow.Author.Tests.{ltb-true, ltb-false, lt-ltb, le-ltb, eq-eqb, ne_eqb}
use Rattle.unit_beam.specs.Beam.{increment, cut_ten, off_screen}

-- a difference, by which number is the larger
from_larger : (a b : ℕ) → b ≤ a → sub_ℕ a b ≡ pos (a - b)
from_larger a b h = simp (le-ltb a b h)

from_smaller : (a b : ℕ) → a < b → sub_ℕ a b ≡ negsuc (b - suc a)
from_smaller a b h = simp (lt-ltb a b h)

-- a coordinate less k + 1, and 1,024 more
module _ (x k : ℕ) (few : k < 64) where
  lessened : (below : Bool) → ltb x (suc k) ≡ below → sub_ℕ x (suc k) +ℤ pos 1024 ≡ pos (x + 1024 - suc k)
  lessened true e =
      let h : x < suc k = ltb-true x (suc k) e in
      ap (λ (z : ℤ). z +ℤ pos 1024) (from_smaller x (suc k) h)
      ∙ from_larger 1024 (suc (suc k - suc x)) (omega arith)
      ∙ ap pos (omega arith)
  lessened false e =
      let h : suc k ≤ x = ltb-false x (suc k) e in
      ap (λ (z : ℤ). z +ℤ pos 1024) (from_larger x (suc k) h) ∙ ap pos (omega arith)

module _ (x b : ℕ) (byte : b < 256) where
  raised_by : (small : Bool) → ltb b 128 ≡ small
      → pos (x + (b / 2 + 64) % 128 + 960) ≡ (pos x +ℤ cond small (pos (b / 2)) (sub_ℕ (b / 2) 128)) +ℤ pos 1024
  raised_by true e = let h : b < 128 = ltb-true b 128 e in ap pos (omega arith)
  raised_by false e =
      let h : 128 ≤ b = ltb-false b 128 e in
      let k = 128 - suc (b / 2) in
      ap pos (omega arith) ∙ sym (lessened x k (omega arith) (ltb x (suc k)) refl)
      ∙ ap (λ (z : ℤ). (pos x +ℤ z) +ℤ pos 1024) (sym (from_smaller (b / 2) 128 (omega arith)))

  -- the increment's seven bits, told as 64 more, are added, and 960
  pub raised : pos (x + (b / 2 + 64) % 128 + 960) ≡ (pos x +ℤ increment b) +ℤ pos 1024
  unfolding increment
  raised = raised_by (ltb b 128) refl

-- A NUMBER TOLD AS 1,024 MORE
module _ (r : ℕ) where
  -- one below 0 is at least -1,024
  below_0 : (n : ℕ) → pos r ≡ negsuc n +ℤ pos 1024 → r + suc n ≡ 1024
  below_0 n e = by_sign (ltb 1024 (suc n)) refl
    where
      by_sign : (below : Bool) → ltb 1024 (suc n) ≡ below → r + suc n ≡ 1024
      by_sign true t =
          let no : pos r ≡ negsuc (suc n - 1025) = e ∙ from_smaller 1024 (suc n) (ltb-true 1024 (suc n) t) in
          let z : ◌≡◌ {A = ℕ} 0 1 = cc in
          absurd (omega arith)
      by_sign false t =
          let h : suc n ≤ 1024 = ltb-false 1024 (suc n) t in
          let yes : pos r ≡ pos (1024 - suc n) = e ∙ from_larger 1024 (suc n) h in
          let same : r ≡ 1024 - suc n = cc in
          omega arith

  -- its ten bits
  pub cut_raised : (z : ℤ) → pos r ≡ z +ℤ pos 1024 → r % 1024 ≡ cut_ten z
  cut_raised (pos n) e = let same : r ≡ n + 1024 = cc in omega arith
  cut_raised (negsuc n) e = let same = below_0 n e in omega arith

  -- whether it lies off the screen
  pub off_raised : (z : ℤ) → pos r ≡ z +ℤ pos 1024 → not (eqb (r / 1024) 1) ≡ off_screen z
  off_raised (pos n) e = by_range (ltb 1023 n) refl
    where
      same : r ≡ n + 1024
      same = cc

      by_range : (beyond : Bool) → ltb 1023 n ≡ beyond → not (eqb (r / 1024) 1) ≡ beyond
      by_range true t = ap not (ne_eqb (r / 1024) 1 (omega (arith, same, ltb-true 1023 n t)))
      by_range false t = ap not (eq-eqb (r / 1024) 1 (omega (arith, same, ltb-false 1023 n t)))
  off_raised (negsuc n) e = let same = below_0 n e in ap not (ne_eqb (r / 1024) 1 (omega arith))
