-- The listing of an input that comes in pieces (01, "Records and the printed verdict").
use Rattle.std.specs.Prelude.{ℕ, ◌+◌, ◌≤◌, ◌<◌, ◌≡◌, List, [], ◌++◌, ◌⊎◌, length, take, drop, replicate}
use Rattle.ground_refusals.specs.Refusals.{refusal_number}
use Rattle.record_format.specs.Records.{cut_of}
use Rattle.record_format.specs.declared.Header.{Header}
use Rattle.record_format.specs.declared.Header.TheVariants.{Record, Cut, End}
use Rattle.record_lines.specs.Lines.{refused_line}
use Rattle.record_intake.specs.Intake.{OpenRecord, open_at}
use Rattle.record_intake.specs.Printed.{Printed, Told}
use Rattle.record_answer.specs.Answer.{RecordLine}
use Rattle.record_listing.specs.declared.ListingAt.{ListingAt}
use Rattle.text_pieces.specs.declared.Fed.{Fed}

-- WHAT IS PRINTED for a whole input: "a line per record: its number from 1"
abbrev pub PrintedFor : List ℕ → List ℕ → Type 0
PrintedFor input text = Printed RecordLine 1 input text

-- what is printed where the input ends, by what stands where a header was due
abbrev pub last_line : ℕ → Header → List ℕ
last_line number (Record n kind) = refused_line number (refusal_number (cut_of kind))
last_line number Cut = refused_line number 6
last_line number End = []

-- from the bytes of an open record and a piece the listing comes to those of another: the text is told
pub record Comes (l : ListingAt) (s piece text : List ℕ) (f : Fed) (l' : ListingAt) (kept : List ℕ) : Type 0 where
  pub bytes : List ℕ
  pub opened : OpenRecord (open_at l'.seen kept) kept bytes
  pub told : Told RecordLine l.number s piece text l'.number bytes (drop f.used piece)

-- A PIECE IS TAKEN IN as far as it is used: a text is put from a place on, nothing else of the buffer is touched, and it is what is
-- told of the piece, whichever bytes of the open record came before; each record has a byte at least
pub record Feeds (l : ListingAt) (kept piece out : List ℕ) (at : ℕ) (f : Fed) (l' : ListingAt) (kept' out' : List ℕ) : Type 0 where
  pub text : List ℕ
  pub put : take f.end out' ≡ take at out ++ text
  pub beyond : drop f.end out' ≡ drop f.end out
  pub ends : (at ≤ f.end) × (f.end ≤ length out)
  pub within : f.used ≤ length piece
  pub numbers : l'.number ≤ l.number + f.used
  pub comes : (s : List ℕ) → OpenRecord (open_at l.seen kept) kept s → Comes l s piece text f l' kept'

-- a working store is left as it was, or zero
abbrev pub StoreLeft : List ℕ → List ℕ → Type 0
StoreLeft store store' = (store' ≡ store) ⊎ (store' ≡ replicate 32768 0)

-- a piece is left over only where a line finds no room, or a record no number; where there is room at first some of it is used
pub record Stops (l : ListingAt) (piece out : List ℕ) (f : Fed) (l' : ListingAt) : Type 0 where
  pub all : f.end + 128 ≤ length out → l'.number < 18446744073709551615 → f.used ≡ length piece
  pub some : 128 ≤ length out → l.number < 18446744073709551615 → 0 < length piece → 0 < f.used
