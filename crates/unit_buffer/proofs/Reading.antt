-- One byte's turn of a read, by the definitions: what is left from index i on is this byte and what is left from i + 1 on.
use Prim.Native.Nat.{ℕ, suc, ◌+◌, ◌<◌, ◌≤◌}
use native.Mathlib.Numerals.{add-one}
use native.Mathlib.Omega.{arith}
use native.Mathlib.Nat.{le_refl}
use mathlib.Core.Path.{◌≡◌, sym, ◌∙◌, ap}
use mathlib.Core.Bool.{Bool, true, false}
use mathlib.Core.List.{List, ◌++◌, append_assoc, append-nil}
use lib.ListN.{length, take, drop, get_or, set, drop_of_length-le}
use lib.Seq.{take_all, drop-cons, take-suc-set, set_split, drop-set-lt}
use Rattle.ground_setup.specs.Setup.{ahead_of}
use Rattle.ground_setup.specs.declared.Size.{Size}
use Rattle.unit_cursor.specs.Cursor.{Buffer}
use Rattle.unit_buffer.specs.Buffer.{found_at, given_of, reads_on, ended_at, given_from, read_from}

module _ (b : Buffer) (s : Size) (seek : Bool) (a : ℕ) (room : List ℕ) (i : ℕ) where
  -- the room with the byte of this turn
  abbrev pub next_room : List ℕ
  next_room = set room i (given_of (found_at b seek a) (get_or b.words a 0))

  module _ (h : i < length room) where
    pub given_on : reads_on (found_at b seek a) (get_or b.words a 0) ≡ true
        → take i room ++ given_from b s seek a (drop i room) ≡ take (i + 1) next_room ++ given_from b s seek (ahead_of s a 1) (drop (i + 1) next_room)
    unfolding given_from
    given_on e =
        rw (add-one i, take-suc-set room i (given_of (found_at b seek a) (get_or b.words a 0)), drop-set-lt (suc i) room i (given_of (found_at b seek a) (get_or b.words a 0)) (le_refl (suc i)), drop-cons room i 0)
        (simp (e, append_assoc))

    pub given_last : reads_on (found_at b seek a) (get_or b.words a 0) ≡ false → take i room ++ given_from b s seek a (drop i room) ≡ next_room
    unfolding given_from
    given_last e = rw (drop-cons room i 0) (simp e (sym (set_split room i (given_of (found_at b seek a) (get_or b.words a 0)) h)))

    pub read_on : reads_on (found_at b seek a) (get_or b.words a 0) ≡ true
        → read_from b s seek a i (drop i room) ≡ read_from b s seek (ahead_of s a 1) (i + 1) (drop (i + 1) next_room)
    unfolding read_from
    read_on e =
        rw (drop-cons room i 0)
        (simp e
        (ap (λ (l : List ℕ). read_from b s seek (ahead_of s a 1) (i + 1) l)
        (ap (λ (k : ℕ). drop k room) (sym (add-one i)) ∙ sym (drop-set-lt (i + 1) room i (given_of (found_at b seek a) (get_or b.words a 0)) (omega arith)))))

    pub read_last : reads_on (found_at b seek a) (get_or b.words a 0) ≡ false → read_from b s seek a i (drop i room) ≡ ended_at s (i + 1) a (get_or b.words a 0)
    unfolding read_from
    read_last e = rw (drop-cons room i 0) (simp e)

  pub given_all : length room ≤ i → take i room ++ given_from b s seek a (drop i room) ≡ room
  unfolding given_from
  given_all h = rw (drop_of_length-le room h, append-nil) (take_all i room h)

  pub read_all : length room ≤ i → read_from b s seek a i (drop i room) ≡ record { count = i; address = a; good = true }
  unfolding read_from
  read_all h = rw (drop_of_length-le room h)
