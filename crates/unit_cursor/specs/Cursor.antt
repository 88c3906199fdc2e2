-- The cursor of a buffer (000 p.20 and 21; 02, C-15): whether it is here, set here, cleared here. It is the bit C of each location, and the
-- number of set bits is kept with the words.
use Rattle.std.specs.Prelude.{ℕ, zero, suc, ◌+◌, ◌-◌, ◌%◌, Bool, true, false, cond, not, List, eqb, get_or, set}
use Rattle.ground_location.specs.Location.{data_of, cursor_of, written_of, word_of}
use Rattle.unit_cursor.specs.declared.Cursor.{Cursor}

-- a buffer: its words, and its cursor
pub record Buffer : Type 0 where
  pub words : List ℕ
  pub cursor : Cursor

abbrev pub buffer : List ℕ → Cursor → Buffer
buffer words cursor = record { words = words; cursor = cursor }

-- so many cursor bits are set
abbrev pub cursors : ℕ → Cursor
cursors n = record { count = n }

-- a location's cursor bit as a number
abbrev pub cursor_bit : ℕ → ℕ
cursor_bit w = cond (cursor_of w) 1 0

-- "the full count": the set cursor bits in the first n locations
unfoldable pub cursors_in : ℕ → List ℕ → ℕ
cursors_in zero words = 0
cursors_in (suc n) words = cursors_in n words + cursor_bit (get_or words n 0)

-- the number after a location is stored: the number before, less its old bit, plus its new. A number has 16 bits, and one that was false
-- goes round: it stays wrong by as much as it was
unfoldable pub recounted : ℕ → ℕ → ℕ → ℕ
recounted count old new = (count + 0x10000 - cursor_bit old + cursor_bit new) % 0x10000

-- the word w stored in the location a
abbrev pub stored : ℕ → ℕ → Buffer → Buffer
stored a w b = buffer (set b.words a w) (cursors (recounted b.cursor.count (get_or b.words a 0) w))

-- the cursor is here
abbrev pub cursor_here : Buffer → ℕ → Bool
cursor_here b a = cursor_of (get_or b.words a 0)

-- "Is there any cursor at all?": "The answer comes from it alone", the number of set cursor bits (02, C-15)
abbrev pub any_set : Cursor → Bool
any_set k = not (eqb k.count 0)

-- a word with its cursor bit set or cleared: "cursor commands don't" set written
abbrev pub cursor_set : Bool → ℕ → ℕ
cursor_set on w = word_of (data_of w) on (written_of w)

-- the cursor bit of the location a set or cleared
abbrev pub marked_at : Bool → ℕ → Buffer → Buffer
marked_at on a b = stored a (cursor_set on (get_or b.words a 0)) b

-- the other location of an even-odd pair
abbrev pub other_of : ℕ → ℕ
other_of a = cond (eqb (a % 2) 0) (a + 1) (a - 1)

-- no cursor in the location a; where there is none nothing is stored
unfoldable pub bare_at : ℕ → Buffer → Buffer
bare_at a b = cond (cursor_here b a) (marked_at false a b) b

-- the cursor set here, as Insert Cursor does: one location of a pair has C (000 p.21, note 3)
unfoldable pub set_here : ℕ → Buffer → Buffer
set_here a b = marked_at true a (bare_at (other_of a) b)

-- the cursor cleared here, as Remove Cursor does (000 p.21)
unfoldable pub cleared_here : ℕ → Buffer → Buffer
cleared_here a b = marked_at false a b
