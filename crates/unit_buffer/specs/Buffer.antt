-- What a write does to a buffer, and what a read gives of it (01, "Status, sense and commands"; 000 p.18 to 20).
use Rattle.std.specs.Prelude.{ℕ, ◌+◌, Bool, true, false, cond, not, ◌&&◌, List, [], ◌∷◌, get_or}
use Rattle.ground_location.specs.Location.{data_of, good_of, word_of}
use Rattle.ground_setup.specs.Setup.{wrap_of, ahead_of}
use Rattle.ground_setup.specs.declared.Size.{Size}
use Rattle.unit_cursor.specs.Cursor.{Buffer, stored, cursor_here}
use Rattle.unit_buffer.specs.declared.Read.{Read}

-- what a write leaves: the address behind the last byte, and the buffer
pub record Wrote : Type 0 where
  pub address : ℕ
  pub buffer : Buffer

abbrev pub wrote : ℕ → Buffer → Wrote
wrote a b = record { address = a; buffer = b }

-- bytes written from an address on: each "sets written" and clears C (000 p.18); writes and reads "step through locations from the
-- address register and go round from the last to 0"
unfoldable pub written_from : Size → ℕ → List ℕ → Buffer → Wrote
written_from s a [] b = wrote a b
written_from s a (x ∷ bytes) b = written_from s (ahead_of s a 1) bytes (stored a (word_of x false true) b)

-- Write Buffer at an address
abbrev pub bytes_written : Size → ℕ → List ℕ → Buffer → Wrote
bytes_written s a bytes b = written_from s (wrap_of s a) bytes b

-- a read that seeks the cursor has found it at a
abbrev pub found_at : Buffer → Bool → ℕ → Bool
found_at b seek a = seek && cursor_here b a

-- the byte that a read gives of a word: 1A in place of the cursor's that it seeks (000 p.20)
abbrev pub given_of : Bool → ℕ → ℕ
given_of found w = cond found 0x1A (data_of w)

-- whether a read goes on behind a word: not at the cursor that it seeks, and not at bad parity
abbrev pub reads_on : Bool → ℕ → Bool
reads_on found w = good_of w && not found

-- a read that ends at the word w at a: "A read that meets bad parity gives that byte, steps past it and ends"; at the cursor it stops there
abbrev pub ended_at : Size → ℕ → ℕ → ℕ → Read
ended_at s n a w = record { count = n; address = cond (good_of w) a (ahead_of s a 1); good = good_of w }

-- the room after a read from an address on: "A read's count is the room lent", and "bytes not given stay"
unfoldable pub given_from : Buffer → Size → Bool → ℕ → List ℕ → List ℕ
given_from b s seek a [] = []
given_from b s seek a (x ∷ room) =
    given_of (found_at b seek a) (get_or b.words a 0)
    ∷ cond (reads_on (found_at b seek a) (get_or b.words a 0)) (given_from b s seek (ahead_of s a 1) room) room

-- how a read from an address on ends, with n bytes given before
unfoldable pub read_from : Buffer → Size → Bool → ℕ → ℕ → List ℕ → Read
read_from b s seek a n [] = record { count = n; address = a; good = true }
read_from b s seek a n (x ∷ room) =
    cond (reads_on (found_at b seek a) (get_or b.words a 0)) (read_from b s seek (ahead_of s a 1) (n + 1) room)
    (ended_at s (n + 1) a (get_or b.words a 0))

-- Read Buffer, and Read Cursor, which seeks the cursor
abbrev pub room_read : Buffer → Size → Bool → ℕ → List ℕ → List ℕ
room_read b s seek a room = given_from b s seek (wrap_of s a) room

abbrev pub read_of : Buffer → Size → Bool → ℕ → List ℕ → Read
read_of b s seek a room = read_from b s seek (wrap_of s a) 0 room
