-- A script that comes in pieces, and the line of it that is open: its newline has not come yet. Of a line longer than 40,000 bytes only
-- that is told, so no more than its first 40,001 bytes are kept.
use Rattle.std.specs.Prelude.{ℕ, ◌+◌, ◌≤◌, ◌≡◌, cond, List, [], ◌++◌, length, take, eqb}
use Rattle.text_parse.specs.Index.{index_of}
use Rattle.text_pieces.specs.declared.Found.{Found}
use Rattle.text_pieces.specs.declared.Found.TheVariants.{Whole, Open}

-- the open line, as far as it is kept: the first bytes of those kept. A count that no call leaves, with a newline among them, is read as none
unfoldable pub open_line : ℕ → List ℕ → List ℕ
open_line seen kept = cond (eqb (index_of 10 (take seen kept)) (length (take seen kept))) (take seen kept) []

-- what a piece does to an open line: it ends it at its first newline, and the line is given, where it is longer than 40,001 bytes as one
-- that begins as it does; or the line goes on
abbrev pub LineFound : List ℕ → List ℕ → List ℕ → Found → Type 0
LineFound begun piece kept (Whole direct count used) =
    (used ≡ index_of 10 piece + 1) × (used ≤ length piece)
    × (take 40001 (take count (cond direct piece kept)) ≡ take 40001 (begun ++ take (index_of 10 piece) piece))
LineFound begun piece kept (Open seen) = (index_of 10 piece ≡ length piece) × (open_line seen kept ≡ take 40001 (begun ++ piece))
