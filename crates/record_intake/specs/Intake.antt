-- Records that come in pieces: what is kept of the one that is open, and what is found when a piece is taken in.
use Rattle.std.specs.Prelude.{ℕ, ◌+◌, ◌≤◌, ◌<◌, min, ◌≡◌, cond, List, ◌++◌, length, take, ltb}
use Rattle.record_format.specs.Records.{length_in, kind_in, extent_of, header_of, needed_in}
use Rattle.record_format.specs.declared.Header.{Header}
use Rattle.record_format.specs.declared.Header.TheVariants.{Record, Cut, End}
use Rattle.text_pieces.specs.declared.Found.{Found}
use Rattle.text_pieces.specs.declared.Found.TheVariants.{Whole, Open}

-- how many of a record's first bytes can be needed, by those that are there: its header, then what the table of kinds says of its
-- payload
unfoldable pub needed_of : List ℕ → ℕ
needed_of s = cond (ltb (length s) 6) 6 (6 + min (length_in s) (needed_in (kind_in s)))

-- A RECORD THAT IS OPEN: `s` are its bytes so far, fewer than it has; `seen` is their number, and those that can be needed are kept
pub record OpenRecord (seen : ℕ) (kept s : List ℕ) : Type 0 where
  pub count : seen ≡ length s
  pub more : length s < extent_of s
  pub first : take (min seen (needed_of s)) kept ≡ take (needed_of s) s

-- a number that no call has left, for the record would be whole, is read as that of no record
abbrev pub open_by : ℕ → Header → ℕ
open_by seen (Record n kind) = cond (ltb seen (6 + n)) seen 0
open_by seen Cut = 0
open_by seen End = 0

abbrev pub open_at : ℕ → List ℕ → ℕ
open_at seen kept = open_by seen (header_of kept)

-- bytes that tell all that can be needed of a record: the first of it, as many as can be needed, or all
pub record Suffices (first whole : List ℕ) : Type 0 where
  pub begins : first ≡ take (length first) whole
  pub enough : min (length whole) (needed_of whole) ≤ length first

-- A RECORD THAT IS WHOLE: the bytes of the one that was open, and the first of the piece
pub record WholeRecord (s piece first : List ℕ) (used : ℕ) : Type 0 where
  pub whole : length (s ++ take used piece) ≡ extent_of (s ++ take used piece)
  pub told : Suffices first (s ++ take used piece)

-- what is found when a piece is taken in behind the bytes of an open record: a whole record, at the front of the piece or of what is
-- kept; or it is open still
abbrev pub FoundIn : List ℕ → List ℕ → List ℕ → Found → Type 0
FoundIn s piece kept (Whole direct count used) = WholeRecord s piece (take count (cond direct piece kept)) used
FoundIn s piece kept (Open seen) = OpenRecord (open_at seen kept) kept (s ++ piece)

-- behind a whole record none is open
abbrev pub open_of : Found → ℕ
open_of (Whole direct count used) = 0
open_of (Open seen) = seen

-- a record takes a byte of the piece at least, and its header is among the bytes that tell it
abbrev pub UsedIn : List ℕ → List ℕ → Found → Type 0
UsedIn piece kept (Whole direct count used) = (0 < used) × (used ≤ length piece) × (6 ≤ length (take count (cond direct piece kept)))
UsedIn piece kept (Open seen) = Unit {0}
