-- A whole script: "One request a line"; "Before the first `fresh` or `load` the unit is a fresh one of 4,096."
use Rattle.std.specs.Prelude.{ℕ, cond, List, [], ◌∷◌, ◌++◌, take, eqb}
use Rattle.text_parse.specs.Index.{index_of}
use Rattle.ground_setup.specs.declared.Size.TheVariants.{K4}
use Rattle.device_2250.specs.Device.{fresh_of}
use Rattle.device_2250.specs.declared.Device.{Device}
use Rattle.console_session.specs.Session.{said_of}

-- what stands before the first newline
unfoldable pub first_line : List ℕ → List ℕ
first_line script = take (index_of 10 script) script

-- the lines of a script: each ends at its newline, and the last may want its own. Every other byte is one of its line's, a carriage
-- return too; no request has one, so that such a line is an error unless it begins with `#` (`console_script`, proofs/Cases.antt)
abbrev pub joined : ℕ → List (List ℕ) → List (List ℕ)
joined byte [] = (byte ∷ []) ∷ []
joined byte (line ∷ lines) = (byte ∷ line) ∷ lines

unfoldable pub lines_of : List ℕ → List (List ℕ)
lines_of [] = []
lines_of (byte ∷ rest) = cond (eqb byte 10) ([] ∷ lines_of rest) (joined byte (lines_of rest))

-- the answers of lines, one behind the other, each of the unit that the line before has left; one longer than 40,000 bytes "prints
-- `error` and changes nothing", as `said_of` has it
unfoldable pub answers_of : Device → List (List ℕ) → List ℕ
answers_of d [] = []
answers_of d (line ∷ lines) = (said_of d line).text ++ answers_of (said_of d line).device lines

-- what is printed for a script from a unit on, and for a whole one
abbrev pub play_from : Device → List ℕ → List ℕ
play_from d script = answers_of d (lines_of script)

unfoldable pub play_of : List ℕ → List ℕ
play_of script = play_from (fresh_of K4) script
