-- Standard input, listed on standard output. No contract can say which bytes a read gives or whether a write takes what it is given;
-- these say what is done with them, and count both.
use Rattle.std.specs.Prelude.{ℕ, ◌+◌, ◌≤◌, List, [], length}
use Rattle.record_listing.specs.Listing.{PrintedFor}
use Rattle.record_listing.specs.Pieces.{Standing}
use Rattle.record_listing.specs.declared.ListingAt.{ListingAt}
use Rattle.record_stream.specs.declared.Lister.{Lister}
use Rattle.text_stream.specs.Ends.{StreamEnds}
use Rattle.text_stream.specs.Listen.{AllGiven, GivenSoFar}
use Rattle.text_stream.specs.declared.Streamed.{Streamed}

-- WHERE THE LISTING STANDS once an input was taken in up to its rest, and a text given out: each record that has come has a byte at least
pub record Listed (l : ListingAt) (kept input rest text : List ℕ) : Type 0 where
  pub standing : Standing 1 [] input rest text l kept
  pub numbers : l.number + length rest ≤ length input + 1

-- THE WHOLE: as many bytes were written as the text has that is printed for an input of as many bytes as came
abbrev pub AllListed : Streamed → Type 0
AllListed r = AllGiven PrintedFor r

-- a read has failed: as many bytes were written as were given out for the records that came whole, and none for the one that is open
abbrev pub ListedSoFar : Streamed → Type 0
ListedSoFar r = GivenSoFar (λ (l : Lister). Listed l.at l.kept) r

abbrev pub Lists : Streamed → Type 0
Lists r = StreamEnds AllListed ListedSoFar r
