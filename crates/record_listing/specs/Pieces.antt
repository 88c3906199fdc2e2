-- An input that is taken in, whatever its pieces.
use Rattle.std.specs.Prelude.{List, [], ◌∷◌, ◌++◌, ℕ, take, drop}
use Rattle.record_format.specs.Records.{header_of}
use Rattle.record_intake.specs.Intake.{OpenRecord, open_at}
use Rattle.record_intake.specs.Printed.{Told}
use Rattle.record_answer.specs.Answer.{RecordLine}
use Rattle.record_listing.specs.Listing.{last_line, Feeds}
use Rattle.record_listing.specs.declared.ListingAt.{ListingAt}
use Rattle.text_pieces.specs.declared.Fed.{Fed}

-- all bytes of some pieces
abbrev pub bytes_of : List (List ℕ) → List ℕ
bytes_of [] = []
bytes_of (piece ∷ pieces) = piece ++ bytes_of pieces

-- CALLS OF `feed`, one behind the other: each takes in a piece as far as it uses it, its rest is the next piece, and what it puts into a
-- buffer is given out. An empty piece is none.
pub data Calls : ListingAt → List ℕ → List (List ℕ) → List ℕ → ListingAt → List ℕ → Type 0 where
  done : (l : ListingAt) (kept : List ℕ) → Calls l kept [] [] l kept
  empty : (l l' : ListingAt) (kept kept' text : List ℕ) (pieces : List (List ℕ)) → Calls l kept pieces text l' kept'
      → Calls l kept ([] ∷ pieces) text l' kept'
  fed : (l l₁ l' : ListingAt) (kept kept₁ kept' piece out out₁ text : List ℕ) (pieces : List (List ℕ)) (f : Fed)
      → Feeds l kept piece out 0 f l₁ kept₁ out₁
      → Calls l₁ kept₁ (drop f.used piece ∷ pieces) text l' kept'
      → Calls l kept (piece ∷ pieces) (take f.end out₁ ++ text) l' kept'

-- WHERE A LISTING STANDS once an input was taken in up to its rest, and a text given out, from a number and the bytes of an open record on:
-- whatever follows, what is printed for those bytes, the input and what follows is the text, and what is printed for the record that is
-- open now, the rest and what follows
pub record Standing (number : ℕ) (s input rest text : List ℕ) (l : ListingAt) (kept : List ℕ) : Type 0 where
  pub bytes : List ℕ
  pub opened : OpenRecord (open_at l.seen kept) kept bytes
  pub told : Told RecordLine number s input text l.number bytes rest

-- what `close` puts
abbrev pub closing_of : ListingAt → List ℕ → List ℕ
closing_of l kept = last_line l.number (header_of (take (open_at l.seen kept) kept))
