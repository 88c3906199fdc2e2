-- All sights are 2 or less exactly where the greatest is. Assumes nothing.
use Prim.Native.Nat.{ℕ, suc, ◌+◌, ◌≤◌, ◌<◌}
use native.Mathlib.Omega.{arith}
use native.Mathlib.Numerals.{add-one}
use mathlib.Core.Path.{◌≡◌, refl, sym, ap, ◌∙◌}
use mathlib.Core.Bool.{Bool, true, false, cond, ◌&&◌}
use mathlib.Core.List.{List}
use lib.Dec.{eqb, leb, ltb}
use lib.ListN.{length, drop, get_or, drop_of_length-le}
use lib.Seq.{drop-cons}
use borrow.Author.Tests.{le-leb, lt-leb, leb-true, leb-false, ltb-true, ltb-false}
use Rattle.std.specs.Ordering.{nat_cmp, ord_max, is_lt}
use Rattle.std.specs.declared.cmp.Ordering.TheVariants.{Less, Equal, Greater}
use Rattle.unit_advance.specs.Advance.{all_sights}

-- of two
two_by : (a b : ℕ) (t u : Bool) → ltb b a ≡ t → leb a 2 ≡ u → (u && leb b 2) ≡ leb (cond t a b) 2
two_by a b true true e f = le-leb b 2 (omega (arith, ltb-true b a e, leb-true a 2 f)) ∙ sym f
two_by a b true false e f = sym f
two_by a b false true e f = refl
two_by a b false false e f = sym (lt-leb b 2 (omega (arith, ltb-false b a e, leb-false a 2 f)))

less_by : (t u : Bool) → is_lt (cond t Less (cond u Equal Greater)) ≡ t
less_by true u = refl
less_by false true = refl
less_by false false = refl

two_max : (a b : ℕ) → (leb a 2 && leb b 2) ≡ leb (ord_max nat_cmp a b) 2
two_max a b = rw (less_by (ltb b a) (eqb b a)) (two_by a b (ltb b a) (leb a 2) refl refl)

and_assoc : (a b c : Bool) → (a && (b && c)) ≡ ((a && b) && c)
and_assoc true b c = refl
and_assoc false b c = refl

and_true : (a : Bool) → (a && true) ≡ a
and_true true = refl
and_true false = refl

-- of those so far and one more
pub greatest_more : (sights : List ℕ) (i a : ℕ) → i < length sights
    → (leb a 2 && all_sights (drop i sights)) ≡ (leb (ord_max nat_cmp a (get_or sights i 0)) 2 && all_sights (drop (i + 1) sights))
unfolding all_sights
greatest_more sights i a h =
    rw (add-one i, drop-cons sights i 0 h)
    (and_assoc (leb a 2) (leb (get_or sights i 0) 2) _
    ∙ ap (λ (t : Bool). t && all_sights (drop (suc i) sights)) (two_max a (get_or sights i 0)))

-- of all
pub greatest_all : (sights : List ℕ) (i a : ℕ) → length sights ≤ i → (leb a 2 && all_sights (drop i sights)) ≡ leb a 2
unfolding all_sights
greatest_all sights i a h = rw (drop_of_length-le sights h) (and_true (leb a 2))
