-- The law of one store, which serves every writer, and what it means that the number is 0.
use Prim.Native.Nat.{ℕ, zero, suc, ◌+◌, ◌%◌, ◌<◌, ◌≤◌}
use native.Mathlib.Omega.{arith}
use native.Mathlib.Decide.{ℕ_discrete}
use mathlib.Core.Path.{◌≡◌, ◌∙◌, refl, ap}
use mathlib.Core.Bool.{Bool, true, false, cond}
use mathlib.Core.List.{List, [], ◌∷◌, ◌++◌, map}
use lib.ListN.{length, get_or, set}
use lib.Seq.{get_or-set_same, get_or-set_other}
use Rattle.std.specs.List.{filter, range_with_len}
use Rattle.std.proofs.lemmas.List.{length-append}
use Rattle.std.proofs.lemmas.List.FromFn.{filter_of_map_range_with_len_more}
use Rattle.ground_location.specs.Location.{cursor_of}
use Rattle.unit_cursor.specs.Cursor.{cursor_bit, cursors_in, recounted}

digit_most : (b : Bool) → cond b 1 0 ≤ 1
digit_most true = omega arith
digit_most false = omega arith

pub bit_most : (w : ℕ) → cursor_bit w ≤ 1
bit_most w = digit_most (cursor_of w)

digit_none : (b : Bool) → ◌≡◌ {A = ℕ} (cond b 1 0) 0 → b ≡ false
digit_none true e = absurd (omega arith)
digit_none false e = refl

-- no more cursor bits than locations
pub count_most : (n : ℕ) (words : List ℕ) → cursors_in n words ≤ n
unfolding cursors_in
count_most zero words = omega arith
count_most (suc n) words = omega (arith, count_most n words, bit_most (get_or words n 0))

one_more : (b : Bool) (xs : List ℕ) (x : ℕ) → length (xs ++ cond b (x ∷ []) []) ≡ length xs + cond b 1 0
one_more true xs x = length-append xs (x ∷ [])
one_more false xs x = length-append xs []

-- the cursor bits among the first n locations, counted
pub counted_is : (n : ℕ) (words : List ℕ) → length (filter cursor_of (map (λ i. get_or words i 0) (range_with_len 0 n))) ≡ cursors_in n words
unfolding cursors_in
counted_is zero words = refl
counted_is (suc n) words =
    let word : ℕ → ℕ = λ i. get_or words i 0 in
    let more = filter_of_map_range_with_len_more cursor_of word 0 n n (omega arith) in
    ap (λ k. length (filter cursor_of (map word (range_with_len 0 k)))) {x = suc n} {y = n + 1} (omega arith)
    ∙ ap length more
    ∙ one_more (cursor_of (word n)) (filter cursor_of (map word (range_with_len 0 n))) (word n)
    ∙ ap (λ k. k + cursor_bit (word n)) (counted_is n words)

-- a store behind the locations that are counted
behind_stays : (n k w : ℕ) (words : List ℕ) → n ≤ k → cursors_in n (set words k w) ≡ cursors_in n words
unfolding cursors_in
behind_stays zero k w words h = refl
behind_stays (suc n) k w words h =
    rw (behind_stays n k w words (omega arith), get_or-set_other words k n w 0 (λ e. omega arith))

-- a store among them, in numbers that nothing is taken from
one_store : (n k w : ℕ) (words : List ℕ) → k < n → k < length words → cursors_in n (set words k w) + cursor_bit (get_or words k 0) ≡ cursors_in n words + cursor_bit w
unfolding cursors_in
one_store zero k w words h l = absurd (omega arith)
one_store (suc n) k w words h l =
    elim (ℕ_discrete n k) [
      | yes e ↦ rw e (omega (arith, behind_stays k k w words (omega arith), ap cursor_bit (get_or-set_same words k w 0 l)))
      | no m ↦ omega (arith, one_store n k w words (omega arith) l, ap cursor_bit (get_or-set_other words k n w 0 m))
    ]

-- "the count after one location is stored is the count before, less its old bit, plus its new"
pub count_after_one_store : (n k w : ℕ) (words : List ℕ) → n ≤ 0x8000 → k < n → k < length words → cursors_in n (set words k w) ≡ recounted (cursors_in n words) (get_or words k 0) w
unfolding recounted
count_after_one_store n k w words m h l =
    omega (arith, one_store n k w words h l, count_most n (set words k w), bit_most (get_or words k 0), bit_most w)

-- a number that is false stays wrong by as much as it was
pub wrong_by_as_much : (n k w m : ℕ) (words : List ℕ) → k < n → k < length words → (recounted m (get_or words k 0) w + cursors_in n words) % 0x10000 ≡ (m + cursors_in n (set words k w)) % 0x10000
unfolding recounted
wrong_by_as_much n k w m words h l = omega (arith, one_store n k w words h l, bit_most (get_or words k 0), bit_most w)

-- where the number is 0 no location has a cursor
pub none_set : (n : ℕ) (words : List ℕ) → cursors_in n words ≡ 0 → (k : ℕ) → k < n → cursor_of (get_or words k 0) ≡ false
unfolding cursors_in
none_set zero words e k h = absurd (omega arith)
none_set (suc n) words e k h =
    elim (ℕ_discrete k n) [
      | yes q ↦ rw q (digit_none (cursor_of (get_or words n 0)) (omega arith))
      | no m ↦ none_set n words (omega arith) k (omega arith)
    ]

-- and where no location has one the number is 0
pub none_counted : (n : ℕ) (words : List ℕ) → ((k : ℕ) → k < n → cursor_of (get_or words k 0) ≡ false) → cursors_in n words ≡ 0
unfolding cursors_in
none_counted zero words none = refl
none_counted (suc n) words none = rw (none_counted n words (λ k h. none k (omega arith)), none n (omega arith))
