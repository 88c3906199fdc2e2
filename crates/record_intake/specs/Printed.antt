-- What is printed for a whole input of records (01, "Records and the printed verdict"), where `Line` is what may be printed for a whole
-- record with its number.
use Rattle.std.specs.Prelude.{ℕ, ◌+◌, ◌≤◌, ◌<◌, List, [], ◌++◌, length, take, drop}
use Rattle.ground_refusals.specs.Refusals.{refusal_number}
use Rattle.record_format.specs.Records.{kind_in, extent_of, cut_of}
use Rattle.record_lines.specs.Lines.{refused_line}

-- "payload length .., kind .., payload": the record at the front
abbrev pub record_in : List ℕ → List ℕ
record_in s = take (extent_of s) s

-- "An image too long is skipped over": the next record stands behind all of the payload, however long
abbrev pub behind_in : List ℕ → List ℕ
behind_in s = drop (extent_of s) s

-- what is printed for some bytes whose first record has this number
pub data Printed (Line : ℕ → List ℕ → List ℕ → Type 0) : ℕ → List ℕ → List ℕ → Type 0 where
  -- nothing for nothing
  nothing : (number : ℕ) → Printed Line number [] []
  -- "a header cut short is refused 6"
  headless : (number : ℕ) (s : List ℕ) → 0 < length s → length s < 6 → Printed Line number s (refused_line number 6)
  -- "A cut record ends the listing"
  cut : (number : ℕ) (s : List ℕ) → 6 ≤ length s → length s < extent_of s
      → Printed Line number s (refused_line number (refusal_number (cut_of (kind_in s))))
  -- "a line per record: its number from 1"
  listed : (number : ℕ) (s line text : List ℕ) → extent_of s ≤ length s → Line number (record_in s) line
      → Printed Line (number + 1) (behind_in s) text
      → Printed Line number s (line ++ text)

-- A TEXT IS TOLD while a piece is taken in up to its rest: whatever follows, what is printed for the open record, the piece and what
-- follows is the text, and what is printed for the record that is open then, the rest and what follows
abbrev pub Told : (ℕ → List ℕ → List ℕ → Type 0) → ℕ → List ℕ → List ℕ → List ℕ → ℕ → List ℕ → List ℕ → Type 0
Told Line number s piece text number' s' rest =
    (r t : List ℕ) → Printed Line number' (s' ++ (rest ++ r)) t → Printed Line number (s ++ (piece ++ r)) (text ++ t)
