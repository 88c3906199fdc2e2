-- Laws of the buffer by location: what stands where after a write, what a read gives and how it ends. They hold for every size. Assumes nothing.
use Prim.Native.Nat.{ℕ, zero, suc, ◌+◌, ◌-◌, ◌≤◌, ◌<◌}
use native.Mathlib.Decide.{dec_lt}
use native.Mathlib.Nat.{not-suc-le-zero, le_of_suc-le-suc, mod-eq-sub-mod}
use native.Mathlib.Omega.{arith}
use mathlib.Core.Path.{◌≡◌, refl, sym, ap, subst, ◌∙◌}
use mathlib.Core.Bool.{Bool, true, false, cond, ◌&&◌}
use mathlib.Core.List.{List, [], ◌∷◌}
use lib.ListN.{length, get_or, set, length-set}
use lib.Seq.{get_or-set_same, get_or-set_other, ext_get_or}
use Rattle.ground_location.specs.Location.{data_of, good_of, word_of}
use Rattle.ground_location.proofs.Laws.{data_stored, good_stored}
use Rattle.ground_setup.specs.Setup.{size_of, wrap_of, ahead_of}
use Rattle.ground_setup.specs.declared.Size.{Size}
use Rattle.ground_setup.proofs.Laws.{below, wrap_same, wrap_sum}
use Rattle.ground_words.proofs.Laws.{either_way, stored_location}
use Rattle.unit_cursor.specs.Cursor.{Buffer, stored}
use Rattle.unit_buffer.specs.Buffer.{written_from, found_at, reads_on, given_from, read_from}
use Rattle.unit_buffer.specs.declared.Read.{Read}
use Rattle.theorem_roundtrips.specs.RoundTrips.{Bytes}

module _ (s : Size) where
  pub ahead_zero : (a : ℕ) → a < size_of s → ahead_of s a 0 ≡ a
  ahead_zero a h = wrap_sum s a 0 ∙ wrap_same s (a + 0) (omega arith) ∙ omega arith

  pub ahead_next : (a i : ℕ) → ahead_of s (ahead_of s a 1) i ≡ ahead_of s a (suc i)
  ahead_next a i =
      let e : wrap_of s a + 1 + i ≡ wrap_of s a + suc i = omega arith in
      wrap_sum s (ahead_of s a 1) i ∙ wrap_sum s (wrap_of s a + 1) i ∙ ap (wrap_of s) e

  pub next_inside : (a : ℕ) → ahead_of s a 1 < size_of s
  next_inside a = below s (wrap_of s a + 1)

  -- less than a round ahead is elsewhere
  pub ahead_other : (a i : ℕ) → a < size_of s → suc i < size_of s → a ≡ ahead_of s a (suc i) → ⊥
  ahead_other a i h l e =
      let at : a ≡ wrap_of s (a + suc i) = e ∙ wrap_sum s a (suc i) in
      elim (dec_lt (a + suc i) (size_of s)) [
        | yes g ↦ omega (arith, wrap_same s (a + suc i) g)
        | no g ↦
            let over : size_of s ≤ a + suc i = omega arith in
            let once : wrap_of s (a + suc i) ≡ a + suc i - size_of s = mod-eq-sub-mod over ∙ wrap_same s (a + suc i - size_of s) (omega arith) in
            omega arith
      ]

-- the words after bytes are written from an address on
unfoldable pub words_from : Size → ℕ → List ℕ → List ℕ → List ℕ
words_from s a [] words = words
words_from s a (b ∷ bytes) words = words_from s (ahead_of s a 1) bytes (set words a (word_of b false true))

-- are those that a write leaves
pub written_words : (s : Size) (a : ℕ) (bytes : List ℕ) (b : Buffer) → (written_from s a bytes b).buffer.words ≡ words_from s a bytes b.words
unfolding written_from words_from
written_words s a [] b = refl
written_words s a (x ∷ bytes) b = written_words s (ahead_of s a 1) bytes (stored a (word_of x false true) b)

pub written_length : (s : Size) (a : ℕ) (bytes words : List ℕ) → length (words_from s a bytes words) ≡ length words
unfolding words_from
written_length s a [] words = refl
written_length s a (b ∷ bytes) words = written_length s (ahead_of s a 1) bytes (set words a (word_of b false true)) ∙ length-set words a (word_of b false true)

-- a write leaves a location that it does not come to
pub written_other : (s : Size) (a : ℕ) (bytes words : List ℕ) (k : ℕ) → a < size_of s → ((i : ℕ) → i < length bytes → k ≡ ahead_of s a i → ⊥) → get_or (words_from s a bytes words) k 0 ≡ get_or words k 0
unfolding words_from
written_other s a [] words k h n = refl
written_other s a (b ∷ bytes) words k h n =
    written_other s (ahead_of s a 1) bytes (set words a (word_of b false true)) k (next_inside s a)
    (λ i l e. n (suc i) (omega arith) (e ∙ ahead_next s a i))
    ∙ get_or-set_other words a k (word_of b false true) 0 (λ e. n 0 (omega arith) (e ∙ sym (ahead_zero s a h)))

-- and stores each byte where it comes to, with C cleared and "written" set
pub written_at : (s : Size) (a : ℕ) (bytes words : List ℕ) (i : ℕ) → a < size_of s → size_of s ≤ length words → length bytes ≤ size_of s → i < length bytes → get_or (words_from s a bytes words) (ahead_of s a i) 0 ≡ word_of (get_or bytes i 0) false true
unfolding words_from
written_at s a [] words i h room fit l = absurd (not-suc-le-zero l)
written_at s a (b ∷ bytes) words zero h room fit l =
    ap (λ (k : ℕ). get_or (words_from s (ahead_of s a 1) bytes (set words a (word_of b false true))) k 0) (ahead_zero s a h)
    ∙ written_other s (ahead_of s a 1) bytes (set words a (word_of b false true)) a (next_inside s a)
    (λ i k e. ahead_other s a i h (omega arith) (e ∙ ahead_next s a i))
    ∙ get_or-set_same words a (word_of b false true) 0 (omega arith)
written_at s a (b ∷ bytes) words (suc i) h room fit l =
    ap (λ (k : ℕ). get_or (words_from s (ahead_of s a 1) bytes (set words a (word_of b false true))) k 0) (sym (ahead_next s a i))
    ∙ written_at s (ahead_of s a 1) bytes (set words a (word_of b false true)) i (next_inside s a)
    (omega (arith, length-set words a (word_of b false true))) (omega arith) (le_of_suc-le-suc l)

-- the locations that a read comes to are good
abbrev pub AllGood : List ℕ → Size → ℕ → ℕ → Type 0
AllGood words s a n = (i : ℕ) → i < n → good_of (get_or words (ahead_of s a i) 0) ≡ true

all_good_next : (words : List ℕ) (s : Size) (a n : ℕ) → AllGood words s a (suc n) → AllGood words s (ahead_of s a 1) n
all_good_next words s a n g i l = ap (λ (k : ℕ). good_of (get_or words k 0)) (ahead_next s a i) ∙ g (suc i) (omega arith)

all_good_here : (words : List ℕ) (s : Size) (a n : ℕ) → a < size_of s → AllGood words s a (suc n) → good_of (get_or words a 0) ≡ true
all_good_here words s a n h g = ap (λ (k : ℕ). good_of (get_or words k 0)) (sym (ahead_zero s a h)) ∙ g 0 (omega arith)

-- a read of n bytes that ended at an address without a check
abbrev pub unchecked : ℕ → ℕ → Read
unchecked n a = record { count = n; address = a; good = true }

first_good : (r : Read) (m a b : ℕ) (good : Bool) → (cond (good && true) r (record { count = m; address = cond good a b; good = good })).good ≡ true → good ≡ true
first_good r m a b true e = refl
first_good r m a b false e = e

module _ (b : Buffer) (s : Size) where
  pub given_length : (seek : Bool) (a : ℕ) (room : List ℕ) → length (given_from b s seek a room) ≡ length room
  unfolding given_from
  given_length seek a [] = refl
  given_length seek a (x ∷ room) =
      ap suc
      (either_way (λ (l : List ℕ). length l ≡ length room) (reads_on (found_at b seek a) (get_or b.words a 0)) (given_length seek (ahead_of s a 1) room) refl)

  -- a read over good locations gives their data
  pub given_at : (a : ℕ) (room : List ℕ) (i : ℕ) → a < size_of s → AllGood b.words s a (length room) → i < length room → get_or (given_from b s false a room) i 0 ≡ data_of (get_or b.words (ahead_of s a i) 0)
  unfolding given_from
  given_at a [] i h g l = absurd (not-suc-le-zero l)
  given_at a (x ∷ room) zero h g l = ap (λ (k : ℕ). data_of (get_or b.words k 0)) (sym (ahead_zero s a h))
  given_at a (x ∷ room) (suc i) h g l =
      simp (all_good_here b.words s a (length room) h g)
      (given_at (ahead_of s a 1) room i (next_inside s a) (all_good_next b.words s a (length room) g) (le_of_suc-le-suc l)
      ∙ ap (λ (k : ℕ). data_of (get_or b.words k 0)) (ahead_next s a i))

  -- and ends without a check, behind them
  pub read_at : (a n : ℕ) (room : List ℕ) → a < size_of s → AllGood b.words s a (length room) → read_from b s false a n room ≡ unchecked (n + length room) (ahead_of s a (length room))
  unfolding read_from
  read_at a n [] h g =
      let c : n ≡ n + 0 = omega arith in
      let e : a ≡ ahead_of s a 0 = sym (ahead_zero s a h) in
      ap (λ (m : ℕ). unchecked m a) c ∙ ap (λ (x : ℕ). unchecked (n + 0) x) e
  read_at a n (x ∷ room) h g =
      let c : n + 1 + length room ≡ n + suc (length room) = omega arith in
      let e = ahead_next s a (length room) in
      simp (all_good_here b.words s a (length room) h g)
      (read_at (ahead_of s a 1) (n + 1) room (next_inside s a) (all_good_next b.words s a (length room) g)
      ∙ ap (λ (m : ℕ). unchecked m (ahead_of s (ahead_of s a 1) (length room))) c
      ∙ ap (λ (y : ℕ). unchecked (n + suc (length room)) y) e)

  -- the first location of a read that ended without a check is good
  first_read : (a n x : ℕ) (room : List ℕ) → (read_from b s false a n (x ∷ room)).good ≡ true → good_of (get_or b.words a 0) ≡ true
  unfolding read_from
  first_read a n x room e =
      first_good (read_from b s false (ahead_of s a 1) (n + 1) room) (n + 1) a (ahead_of s a 1) (good_of (get_or b.words a 0)) e

  -- a read that ended without a check met good locations alone
  pub good_read : (a n : ℕ) (room : List ℕ) → a < size_of s → (read_from b s false a n room).good ≡ true → AllGood b.words s a (length room)
  unfolding read_from
  good_read a n [] h e i l = absurd (not-suc-le-zero l)
  good_read a n (x ∷ room) h e zero l = ap (λ (k : ℕ). good_of (get_or b.words k 0)) (ahead_zero s a h) ∙ first_read a n x room e
  good_read a n (x ∷ room) h e (suc i) l =
      ap (λ (k : ℕ). good_of (get_or b.words k 0)) (sym (ahead_next s a i))
      ∙ good_read (ahead_of s a 1) (n + 1) room (next_inside s a) (simp (first_read a n x room e) at e) i (le_of_suc-le-suc l)

-- bytes written and read from the same address
module _ (s : Size) (a : ℕ) (h : a < size_of s) (words : List ℕ) (whole : size_of s ≤ length words) where
  -- what a write of at most one buffer stored is good
  pub good_written : (bytes room : List ℕ) → Bytes bytes → length bytes ≤ size_of s → length room ≡ length bytes → AllGood (words_from s a bytes words) s a (length room)
  good_written bytes room small fit e i l =
      let m : i < length bytes = omega arith in
      ap good_of (written_at s a bytes words i h whole fit m) ∙ good_stored (get_or bytes i 0) false true (small i m)

  -- and a read of as many bytes gives it
  pub given_written : (bytes room : List ℕ) → Bytes bytes → length bytes ≤ size_of s → length room ≡ length bytes → (b : Buffer) → b.words ≡ words_from s a bytes words → given_from b s false a room ≡ bytes
  given_written bytes room small fit e b w =
      let good : AllGood b.words s a (length room) = subst (λ (ws : List ℕ). AllGood ws s a (length room)) (sym w) (good_written bytes room small fit e) in
      ext_get_or 0 (given_from b s false a room) bytes (given_length b s false a room ∙ e)
      (λ i l.
      let n : i < length room = omega (arith, given_length b s false a room) in
      let m : i < length bytes = omega arith in
      given_at b s a room i h good n ∙ ap (λ (ws : List ℕ). data_of (get_or ws (ahead_of s a i) 0)) w ∙ ap data_of (written_at s a bytes words i h whole fit m)
      ∙ data_stored (get_or bytes i 0) false true (small i m))

-- a write of what the locations hold that it comes to leaves the data of every location, however often it goes round
module _ (s : Size) where
  -- the bytes are the data of the locations that a write of them comes to
  abbrev Held : ℕ → List ℕ → List ℕ → Type 0
  Held a bytes words = (i : ℕ) → i < length bytes → get_or bytes i 0 ≡ data_of (get_or words (ahead_of s a i) 0)

  same_data : (a b : ℕ) (bytes words : List ℕ) → a < size_of s → Held a (b ∷ bytes) words → (k : ℕ) → data_of (get_or (set words a (word_of b false true)) k 0) ≡ data_of (get_or words k 0)
  same_data a b bytes words h held k =
      let here : b ≡ data_of (get_or words a 0) = held 0 (omega arith) ∙ ap (λ (x : ℕ). data_of (get_or words x 0)) (ahead_zero s a h) in
      stored_location (λ (w : ℕ). data_of w ≡ data_of (get_or words k 0)) words a (word_of b false true) k refl
      (λ e. data_stored b false true (omega arith) ∙ here ∙ ap (λ (x : ℕ). data_of (get_or words x 0)) (sym e))

  pub held_stands : (a : ℕ) (bytes words : List ℕ) → a < size_of s → Held a bytes words → (k : ℕ) → data_of (get_or (words_from s a bytes words) k 0) ≡ data_of (get_or words k 0)
  unfolding words_from
  held_stands a [] words h held k = refl
  held_stands a (b ∷ bytes) words h held k =
      let same = same_data a b bytes words h held in
      held_stands (ahead_of s a 1) bytes (set words a (word_of b false true)) (next_inside s a)
      (λ i l. held (suc i) (omega arith) ∙ ap (λ (x : ℕ). data_of (get_or words x 0)) (sym (ahead_next s a i)) ∙ sym (same (ahead_of s (ahead_of s a 1) i))) k
      ∙ same k

-- what a read over good locations gave, written back
pub written_back : (s : Size) (a : ℕ) (b : Buffer) (room : List ℕ) → a < size_of s → AllGood b.words s a (length room) → (k : ℕ)
    → data_of (get_or (words_from s a (given_from b s false a room) b.words) k 0) ≡ data_of (get_or b.words k 0)
written_back s a b room h good k =
    held_stands s a (given_from b s false a room) b.words h
    (λ i l. given_at b s a room i h good (omega (arith, given_length b s false a room))) k
