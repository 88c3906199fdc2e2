-- Laws of the working store's bits and entries. No contract cites this file. Assumes nothing.
use mathlib.Core.Path.{◌≡◌, refl, sym, ap, ◌∙◌}
use mathlib.Core.Logic.{◌⊎◌, inl, inr, ⊎_elim, ◌≢◌}
use mathlib.Core.List.{List, ◌++◌}
use Prim.Native.Nat.{ℕ, zero, suc, ◌+◌, ◌*◌, ◌/◌, ◌%◌, ◌^◌, ◌≤◌, ◌<◌, min}
use native.Mathlib.Nat.{min-eq_left, one-mul, not-suc-le-zero}
use native.Mathlib.Omega.{arith}
use native.Mathlib.Decide.{ℕ_discrete, dec_le}
use lib.Dec.{leb}
use lib.Pow.{shl_exact}
use lib.ListN.{length, get_or, set, drop, replicate, length-append, length-set, length-drop, length-replicate, drop_of_length-le, get_or-replicate, get_or-append, get_or-eq_default}
use lib.Seq.{get_or-set_same, get_or-set_other, drop-set-lt, drop_at, set_out}
use borrow.Author.Tests.{le-leb}
use Rattle.ground_words.proofs.Laws.{either_way}
use Rattle.std.specs.Int.{bit_at}
use Rattle.std.specs.Int.Bits.{bit_or}
use Rattle.std.proofs.lemmas.Nat.Bits.{bit_at-lt, bit_at-zero, bit_at_or, bit_at-pow_same, bit_at-pow_other}
use Rattle.validator_store.specs.Store.{bit_of, marked, tally, entry_at, saved, cleared}

-- a one shifted within a byte
one_shifted : (k : ℕ) → k < 8 → 1 * 2 ^ k % 256 ≡ 2 ^ k
one_shifted k h = shl_exact {a = 1} 1 k 8 (omega arith) (omega arith) ∙ one-mul (2 ^ k)

pub bit_of_lt : (s : List ℕ) (p : ℕ) → bit_of s p < 2
unfolding bit_of
bit_of_lt s p = bit_at-lt _ _

pub outside_bit : (s : List ℕ) (p : ℕ) → length s ≤ p / 8 → bit_of s p ≡ 0
unfolding bit_of
outside_bit s p h = ap (λ (b : ℕ). bit_at b (p % 8)) (get_or-eq_default s 0 h) ∙ bit_at-zero (p % 8)

pub set_marked : (s : List ℕ) (p : ℕ) → set s (p / 8) (bit_or (get_or s (p / 8) 0) (1 * 2 ^ (p % 8) % 256)) ≡ marked s p
unfolding marked
set_marked s p = rw (one_shifted (p % 8) (omega arith)) refl

pub outside_marked : (s : List ℕ) (p : ℕ) → length s ≤ p / 8 → marked s p ≡ s
unfolding marked
outside_marked s p h = set_out s (p / 8) _ h

module _ (s : List ℕ) (p : ℕ) (inside : p < 8 * length s) (free : bit_of s p ≡ 0) where
  pub marked_same : bit_of (marked s p) p ≡ 1
  unfolding bit_of marked
  marked_same =
      let i : p / 8 < length s = omega arith in
      let b : ℕ = get_or s (p / 8) 0 in
      rw (get_or-set_same s (p / 8), bit_at_or, bit_at-pow_same (p % 8)) (omega (arith, bit_at-lt b (p % 8)))

  pub marked_other : (q : ℕ) → q ≢ p → bit_of (marked s p) q ≡ bit_of s q
  unfolding bit_of marked
  marked_other q n =
      let i : p / 8 < length s = omega arith in
      let b : ℕ = get_or s (p / 8) 0 in
      elim (ℕ_discrete (q / 8) (p / 8)) [
        | yes e ↦
            let other : bit_at (2 ^ (p % 8)) (q % 8) ≡ 0 = bit_at-pow_other (p % 8) (q % 8) (λ r. n (omega arith)) in
            rw (e, get_or-set_same s (p / 8), bit_at_or, other) (omega arith)
        | no ne ↦ ap (λ (b : ℕ). bit_at b (q % 8)) (get_or-set_other s (p / 8) (q / 8) _ 0 ne)
      ]

  pub marked_keeps : (q : ℕ) → bit_of s q ≡ 1 → bit_of (marked s p) q ≡ 1
  marked_keeps q h =
      elim (ℕ_discrete q p) [
        | yes e ↦ ap (bit_of (marked s p)) e ∙ marked_same
        | no ne ↦ marked_other q ne ∙ h
      ]

  pub tally_below : (n : ℕ) → n ≤ p → tally (marked s p) n ≡ tally s n
  unfolding tally
  tally_below zero h = refl
  tally_below (suc n) h =
      let r : tally (marked s p) n ≡ tally s n = tally_below n (omega arith) in
      let o : bit_of (marked s p) n ≡ bit_of s n = marked_other n (λ e. omega arith) in
      omega arith

  pub tally_above : (n : ℕ) → p < n → tally (marked s p) n ≡ tally s n + 1
  unfolding tally
  tally_above zero h = absurd (not-suc-le-zero h)
  tally_above (suc n) h =
      elim (ℕ_discrete n p) [
        | yes e ↦
            let r : tally (marked s p) n ≡ tally s n = tally_below n (omega arith) in
            let o : bit_of (marked s p) n ≡ 1 = ap (bit_of (marked s p)) e ∙ marked_same in
            let z : bit_of s n ≡ 0 = ap (bit_of s) e ∙ free in
            omega arith
        | no ne ↦
            let r : tally (marked s p) n ≡ tally s n + 1 = tally_above n (omega arith) in
            let o : bit_of (marked s p) n ≡ bit_of s n = marked_other n ne in
            omega arith
      ]

pub tally_le : (s : List ℕ) (n : ℕ) → tally s n ≤ n
unfolding tally
tally_le s zero = omega arith
tally_le s (suc n) = omega (arith, tally_le s n, bit_of_lt s n)

pub length_marked : (s : List ℕ) (p : ℕ) → length (marked s p) ≡ length s
unfolding marked
length_marked s p = length-set s (p / 8) _

pub drop_marked : (s : List ℕ) (p n : ℕ) → p / 8 < n → drop n (marked s p) ≡ drop n s
unfolding marked
drop_marked s p n h = drop-set-lt n s (p / 8) _ h

-- a byte behind that of a place that is marked
marked_byte : (s : List ℕ) (p k : ℕ) → p / 8 < k → get_or (marked s p) k 0 ≡ get_or s k 0
unfolding marked
marked_byte s p k h = get_or-set_other s (p / 8) k _ 0 (λ e. omega arith)

-- a store of an entry is three stores of a byte, or none
abbrev three : List ℕ → ℕ → ℕ → List ℕ
three s i v = set (set (set s i (v % 256)) (i + 1) (v / 65536 % 256)) (i + 2) (v / 256 % 256)

saved_all : (P : List ℕ → Type 0) (s : List ℕ) (i v : ℕ) → P (three s i v) → P s → P (saved s i v)
unfolding saved
saved_all P s i v = either_way P (leb (i + 3) (length s))

pub length_saved : (s : List ℕ) (i v : ℕ) → length (saved s i v) ≡ length s
length_saved s i v = saved_all (λ l. length l ≡ length s) s i v (simp length-set) refl

pub drop_saved : (s : List ℕ) (i v n : ℕ) → i + 3 ≤ n → drop n (saved s i v) ≡ drop n s
drop_saved s i v n h =
    saved_all (λ l. drop n l ≡ drop n s) s i v
    (drop-set-lt n _ (i + 2) _ (omega arith) ∙ drop-set-lt n _ (i + 1) _ (omega arith) ∙ drop-set-lt n _ i _ (omega arith))
    refl

-- a byte that a store of an entry leaves
saved_byte : (s : List ℕ) (i v k : ℕ) → (k < i) ⊎ (i + 3 ≤ k) → get_or (saved s i v) k 0 ≡ get_or s k 0
saved_byte s i v k h =
    let s₁ : List ℕ = set s i (v % 256) in
    let s₂ : List ℕ = set s₁ (i + 1) (v / 65536 % 256) in
    saved_all (λ l. get_or l k 0 ≡ get_or s k 0) s i v
    (get_or-set_other s₂ (i + 2) k (v / 256 % 256) 0 (λ e. ⊎_elim (λ a. omega arith) (λ a. omega arith) h)
    ∙ get_or-set_other s₁ (i + 1) k (v / 65536 % 256) 0 (λ e. ⊎_elim (λ a. omega arith) (λ a. omega arith) h)
    ∙ get_or-set_other s i k (v % 256) 0 (λ e. ⊎_elim (λ a. omega arith) (λ a. omega arith) h))
    refl

pub bit_of_saved : (s : List ℕ) (i v p : ℕ) → p / 8 < i → bit_of (saved s i v) p ≡ bit_of s p
unfolding bit_of
bit_of_saved s i v p h = ap (λ (b : ℕ). bit_at b (p % 8)) (saved_byte s i v (p / 8) (inl h))

pub tally_saved : (s : List ℕ) (i v n : ℕ) → n ≤ 8 * i → tally (saved s i v) n ≡ tally s n
unfolding tally
tally_saved s i v zero h = refl
tally_saved s i v (suc n) h =
    let r : tally (saved s i v) n ≡ tally s n = tally_saved s i v n (omega arith) in
    let o : bit_of (saved s i v) n ≡ bit_of s n = bit_of_saved s i v n (omega arith) in
    omega arith

-- an entry is what its three bytes are
same_entry : (s t : List ℕ) (i : ℕ) → length t ≡ length s → ((k : ℕ) → i ≤ k → k < i + 3 → get_or t k 0 ≡ get_or s k 0) → entry_at t i ≡ entry_at s i
unfolding entry_at
same_entry s t i e f = rw (e, f i (omega arith) (omega arith), f (i + 1) (omega arith) (omega arith), f (i + 2) (omega arith) (omega arith))

pub entry_marked : (s : List ℕ) (p i : ℕ) → p / 8 < i → entry_at (marked s p) i ≡ entry_at s i
entry_marked s p i h = same_entry s (marked s p) i (length_marked s p) (λ k l u. marked_byte s p k (omega arith))

pub entry_saved_other : (s : List ℕ) (i v k : ℕ) → (k + 3 ≤ i) ⊎ (i + 3 ≤ k) → entry_at (saved s i v) k ≡ entry_at s k
entry_saved_other s i v k h =
    same_entry s (saved s i v) k (length_saved s i v)
    (λ j l u. saved_byte s i v j (⊎_elim (λ x. inl (omega arith)) (λ x. inr (omega arith)) h))

pub entry_saved : (s : List ℕ) (i v : ℕ) → i + 3 ≤ length s → v < 16777216 → entry_at (saved s i v) i ≡ v
unfolding entry_at saved
entry_saved s i v h u =
    let inside = le-leb (i + 3) (length s) h in
    let s₁ : List ℕ = set s i (v % 256) in
    let s₂ : List ℕ = set s₁ (i + 1) (v / 65536 % 256) in
    let s₃ : List ℕ = set s₂ (i + 2) (v / 256 % 256) in
    let a : get_or s₃ i 0 ≡ v % 256 =
    get_or-set_other s₂ (i + 2) i (v / 256 % 256) 0 (λ e. omega arith) ∙ get_or-set_other s₁ (i + 1) i (v / 65536 % 256) 0 (λ e. omega arith) ∙ get_or-set_same s i (v % 256) 0 (omega arith) in
    let b : get_or s₃ (i + 1) 0 ≡ v / 65536 % 256 =
    get_or-set_other s₂ (i + 2) (i + 1) (v / 256 % 256) 0 (λ e. omega arith) ∙ get_or-set_same s₁ (i + 1) (v / 65536 % 256) 0 (simp length-set (omega arith)) in
    let c : get_or s₃ (i + 2) 0 ≡ v / 256 % 256 =
    get_or-set_same s₂ (i + 2) (v / 256 % 256) 0 (simp length-set (omega arith)) in
    simp (inside, length-set) (omega arith)

pub tally_lt : (s : List ℕ) (p n : ℕ) → p < 8 * length s → bit_of s p ≡ 0 → p < n → tally s n < n
tally_lt s p n inside free l = omega (arith, tally_above s p inside free n l, tally_le (marked s p) n)

-- a cleared store is as long as before and has no mark; behind what was cleared it is as before
module _ (s : List ℕ) (n : ℕ) where
  pub cleared_is : replicate (min n (length s)) 0 ++ drop (min n (length s)) s ≡ cleared s n
  unfolding cleared
  cleared_is =
      ap (λ (l : List ℕ). replicate (min n (length s)) 0 ++ l)
      (elim (dec_le n (length s)) [
        | yes h ↦ ap (λ (k : ℕ). drop k s) (min-eq_left h)
        | no h ↦
            drop_of_length-le s {i = min n (length s)} (omega arith) ∙ sym (drop_of_length-le s {i = n} (omega arith))
      ])

  pub length_cleared : length (cleared s n) ≡ length s
  unfolding cleared
  length_cleared = simp (length-append, length-replicate, length-drop) (omega arith)

  zeroed_bit : (p : ℕ) → p / 8 < min n (length s) → bit_of (cleared s n) p ≡ 0
  unfolding bit_of cleared
  zeroed_bit p l =
      ap (λ (b : ℕ). bit_at b (p % 8))
      (get_or-append (replicate (min n (length s)) 0) (drop n s) 0 (p / 8) (rw length-replicate l) ∙ get_or-replicate (min n (length s)) (p / 8) 0 0 l)
      ∙ bit_at-zero (p % 8)

  pub cleared_bit : (p : ℕ) → p / 8 < n → bit_of (cleared s n) p ≡ 0
  cleared_bit p h =
      elim (dec_le (length s) (p / 8)) [
        | yes o ↦ outside_bit (cleared s n) p (omega (arith, length_cleared))
        | no i ↦ zeroed_bit p (omega arith)
      ]

  pub cleared_tally : (m : ℕ) → m ≤ 8 * n → tally (cleared s n) m ≡ 0
  unfolding tally
  cleared_tally zero h = refl
  cleared_tally (suc m) h = omega (arith, cleared_tally m (omega arith), cleared_bit m (omega arith))

  module _ (within : n ≤ length s) where
    pub cleared_within : cleared s n ≡ replicate n 0 ++ drop n s
    unfolding cleared
    cleared_within = rw (min-eq_left within)

    pub drop_cleared : drop n (cleared s n) ≡ drop n s
    drop_cleared = ap (drop n) cleared_within ∙ drop_at (replicate n 0) (drop n s) n (length-replicate n 0)
