-- Runs of stores: one put in the middle of a list, and one behind another; an item has eight numbers.
use Prim.Native.Nat.{ℕ, suc, ◌+◌, ◌*◌, ◌≤◌}
use native.Mathlib.Omega.{arith}
use mathlib.Core.Path.{◌≡◌, refl, ap, sym, ◌∙◌}
use mathlib.Core.List.{List, [], ◌∷◌, ◌++◌, append_assoc, append-nil}
use lib.ListN.{length, set, length-append}
use borrow.Rule.Slice.PartMut.{put_mid}
use Rattle.std.proofs.lemmas.List.{drop-drop}
use Rattle.std.proofs.lemmas.List.Edits.{sets-eq}
use lib.Seq.{sets}
use Rattle.unit_items.specs.Items.{numbers_of, numbers}
use Rattle.unit_items.specs.declared.Item.{Item}
use Rattle.unit_items.specs.declared.Item.TheVariants.{Point, Vector, Character, Cursor}

-- a run put in the middle of a list is a run of stores
pub run : (l vs : List ℕ) (i k : ℕ) → k ≡ length vs → i + k ≤ length l → put_mid i k l vs ≡ sets l i vs
run l vs i k e h = rw (e, drop-drop, ← append_assoc) (sym (sets-eq vs l i (omega arith)))

-- one run of stores and another behind it are one run
pub sets_append : (xs ys l : List ℕ) (i j : ℕ) → j ≡ i + length xs → sets (sets l i xs) j ys ≡ sets l i (xs ++ ys)
sets_append [] ys l i j p = let q : j ≡ i = omega arith in rw q
sets_append (x ∷ xs) ys l i j p = sets_append xs ys (set l i x) (suc i) j (omega arith)

pub eight_numbers : (i : Item) → length (numbers_of i) ≡ 8
eight_numbers (Point x y off at) = refl
eight_numbers (Vector x₀ y₀ x y off at) = refl
eight_numbers (Character size x y code at) = refl
eight_numbers (Cursor size x y code at) = refl

pub length_numbers : (is : List Item) → length (numbers is) ≡ 8 * length is
length_numbers [] = refl
length_numbers (i ∷ is) = simp (length-append, eight_numbers) (omega (arith, length_numbers is))

pub numbers_append : (is js : List Item) → numbers (is ++ js) ≡ numbers is ++ numbers js
numbers_append [] js = refl
numbers_append (i ∷ is) js = rw (numbers_append is js, append_assoc)

-- one item behind another
pub two_items : (i j : Item) (l m r : List ℕ) (at : ℕ) → m ≡ sets l at (numbers_of i) → r ≡ sets m (at + 8) (numbers_of j) → r ≡ sets l at (numbers (i ∷ j ∷ []))
two_items i j l m r at p q =
    let behind : at + 8 ≡ at + length (numbers_of i) = ap (λ (n : ℕ). at + n) (sym (eight_numbers i)) in
    rw append-nil (q ∙ ap (λ (k : List ℕ). sets k (at + 8) (numbers_of j)) p ∙ sets_append (numbers_of i) (numbers_of j) l at (at + 8) behind)

-- a run of items behind another
pub two_runs : (is js : List Item) (l m r : List ℕ) (i n : ℕ) → n ≡ length is → m ≡ sets l (i * 8) (numbers is) → r ≡ sets m ((i + n) * 8) (numbers js) → r ≡ sets l (i * 8) (numbers (is ++ js))
two_runs is js l m r i n k p q =
    let behind : (i + n) * 8 ≡ i * 8 + length (numbers is) = omega (arith, length_numbers is) in
    rw numbers_append (q ∙ ap (λ (a : List ℕ). sets a ((i + n) * 8) (numbers js)) p ∙ sets_append (numbers is) (numbers js) l (i * 8) ((i + n) * 8) behind)
