-- Where a byte stands in a text that is cut, or joined with another.
use Prim.Native.Nat.{ℕ, zero, suc, ◌+◌, ◌≤◌, ◌<◌}
use mathlib.Core.Path.{◌≡◌, refl, sym, ap, ◌∙◌}
use mathlib.Core.Bool.{Bool, true, false}
use mathlib.Core.List.{List, [], ◌∷◌, ◌++◌}
use native.Mathlib.Decide.{dec_le}
use native.Mathlib.Nat.{zero-add, suc-add}
use native.Mathlib.Omega.{arith}
use lib.ListN.{length, take, drop, get_or, drop_of_length-le, length-append}
use lib.Seq.{take_all, drop-cons}
use lib.Dec.{eqb}
use native.Mathlib.Numerals.{add-one}
use borrow.Author.Tests.{eq-eqb, ne_eqb}
use Rattle.text_parse.specs.Index.{index_of, index_after}

-- behind a text that has no such byte
pub index_behind : (b : ℕ) (s r : List ℕ) → index_of b s ≡ length s → index_of b (s ++ r) ≡ length s + index_of b r
unfolding index_of index_after
index_behind b [] r e = sym (zero-add (index_of b r))
index_behind b (x ∷ s) r e = by (eqb x b) (index_behind b s r) e
  where
    by : (t : Bool) → (index_of b s ≡ length s → index_of b (s ++ r) ≡ length s + index_of b r)
        → index_after t (index_of b s) ≡ suc (length s)
        → index_after t (index_of b (s ++ r)) ≡ suc (length s) + index_of b r
    by true rest e = absurd (omega arith)
    by false rest e = ap suc (rest (omega arith)) ∙ sym (suc-add (length s) (index_of b r))

-- in a text that has it, whatever follows
pub index_within : (b : ℕ) (s r : List ℕ) → index_of b s < length s → index_of b (s ++ r) ≡ index_of b s
unfolding index_of index_after
index_within b [] r h = absurd (omega arith)
index_within b (x ∷ s) r h = by (eqb x b) (index_within b s r) h
  where
    by : (t : Bool) → (index_of b s < length s → index_of b (s ++ r) ≡ index_of b s)
        → index_after t (index_of b s) < suc (length s)
        → index_after t (index_of b (s ++ r)) ≡ index_after t (index_of b s)
    by true rest h = refl
    by false rest h = ap suc (rest (omega arith))

-- and in as much of the text as has it
pub index_kept : (b k : ℕ) (s : List ℕ) → index_of b s < k → index_of b (take k s) ≡ index_of b s
unfolding index_of index_after
index_kept b zero s h = absurd (omega arith)
index_kept b (suc k) [] h = refl
index_kept b (suc k) (x ∷ s) h = by (eqb x b) (index_kept b k s) h
  where
    by : (t : Bool) → (index_of b s < k → index_of b (take k s) ≡ index_of b s)
        → index_after t (index_of b s) < suc k
        → index_after t (index_of b (take k s)) ≡ index_after t (index_of b s)
    by true rest h = refl
    by false rest h = ap suc (rest (omega arith))

-- what stands before it has none
pub index_before : (b k : ℕ) (s : List ℕ) → k ≤ index_of b s → index_of b (take k s) ≡ length (take k s)
unfolding index_of index_after
index_before b zero s h = refl
index_before b (suc k) [] h = refl
index_before b (suc k) (x ∷ s) h = by (eqb x b) (index_before b k s) h
  where
    by : (t : Bool) → (k ≤ index_of b s → index_of b (take k s) ≡ length (take k s))
        → suc k ≤ index_after t (index_of b s)
        → index_after t (index_of b (take k s)) ≡ suc (length (take k s))
    by true rest h = absurd (omega arith)
    by false rest h = ap suc (rest (omega arith))

-- a text without it has none in any part, and two of them have none together
pub none_first : (b k : ℕ) (s : List ℕ) → index_of b s ≡ length s → index_of b (take k s) ≡ length (take k s)
none_first b k s e =
    elim (dec_le k (length s)) [
      | yes h ↦ index_before b k s (omega arith)
      | no h ↦ rw (take_all k s (omega arith)) e
    ]

pub none_both : (b : ℕ) (s r : List ℕ) → index_of b s ≡ length s → index_of b r ≡ length r → index_of b (s ++ r) ≡ length (s ++ r)
none_both b s r e f = index_behind b s r e ∙ ap (λ (n : ℕ). length s + n) f ∙ sym (length-append s r)

-- one byte more that was looked at, and none that is left
module _ (b : ℕ) (s : List ℕ) (i : ℕ) where
  pub index_here : i < length s → get_or s i 0 ≡ b → index_of b (drop i s) ≡ 0
  unfolding index_of index_after
  index_here more e = rw (drop-cons s i 0, eq-eqb (get_or s i 0) b e)

  pub index_further : i < length s → (get_or s i 0 ≡ b → ⊥) → index_of b (drop i s) ≡ suc (index_of b (drop (i + 1) s))
  unfolding index_of index_after
  index_further more ne = rw (add-one, drop-cons s i 0, ne_eqb (get_or s i 0) b ne)

  pub index_end : length s ≤ i → index_of b (drop i s) ≡ 0
  unfolding index_of
  index_end over = rw (drop_of_length-le s {i = i} over)
