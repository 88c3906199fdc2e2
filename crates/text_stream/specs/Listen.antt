-- One who listens to input that comes in pieces. `Stands l input rest text` is what holds of it once it has taken in an input up to its rest and
-- given out a text; `Whole input text` is what holds of a whole input and all that is given out for it.
use Rattle.std.specs.Prelude.{ℕ, ◌≤◌, ◌<◌, ◌≡◌, List, [], ◌++◌, length, take, drop}
use Rattle.text_pieces.specs.declared.Fed.{Fed}
use Rattle.text_stream.specs.declared.Streamed.{Streamed}

-- A PIECE IS TAKEN IN as far as it is used, and what it gives stands at the front of a buffer; where an input is not so long that its bytes
-- cannot be counted, some of the piece is used
pub record Takes {A : Type 0} (Stands : A → List ℕ → List ℕ → List ℕ → Type 0) (l : A) (piece : List ℕ) (fed : Fed) (l' : A) (out : List ℕ) : Type 0 where
  pub within : fed.used ≤ length piece
  pub ends : fed.end ≤ length out
  pub on : (input text : List ℕ) → Stands l input piece text → Stands l' input (drop fed.used piece) (text ++ take fed.end out)
  pub some : (input text : List ℕ) → Stands l input piece text → length input < 18446744073709551615 → 0 < length piece → 0 < fed.used

-- THE INPUT HAS ENDED: what is given out last stands at the front of a buffer
pub record Closes {A : Type 0} (Stands : A → List ℕ → List ℕ → List ℕ → Type 0) (Whole : List ℕ → List ℕ → Type 0) (l : A) (end : ℕ) (out : List ℕ) : Type 0 where
  pub ends : end ≤ length out
  pub whole : (input text : List ℕ) → Stands l input [] text → Whole input (text ++ take end out)

-- THE WHOLE: as many bytes were written as the text has that is given out for an input of as many bytes as came
pub record AllGiven (Whole : List ℕ → List ℕ → Type 0) (r : Streamed) : Type 0 where
  pub input : List ℕ
  pub text : List ℕ
  pub whole : Whole input text
  pub came : length input ≡ r.came
  pub written : length text ≡ r.output.written

-- a read has failed: as many bytes were written as were given out for the input so far, and nothing is closed
pub record GivenSoFar {A : Type 0} (Stands : A → List ℕ → List ℕ → List ℕ → Type 0) (r : Streamed) : Type 0 where
  pub listener : A
  pub input : List ℕ
  pub text : List ℕ
  pub stands : Stands listener input [] text
  pub came : length input ≡ r.came
  pub written : length text ≡ r.output.written
