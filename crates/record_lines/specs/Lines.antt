-- 01, "Records and the printed verdict": a line is the record's number, then `passed` and places, or `fault` number `at`
-- address `after` steps, or `refused` number, all decimal.
use Rattle.std.specs.Prelude.{ℕ, List, ◌++◌}
use Rattle.text_put.specs.Text.{spelled, decimal_of, named}

-- a record's number, a word and its number, one newline
abbrev pub line_of : ℕ → List ℕ → ℕ → List ℕ
line_of number word n = decimal_of number ++ named word n ++ spelled "\n"

abbrev pub passed_line : ℕ → ℕ → List ℕ
passed_line number places = line_of number (spelled " passed ") places

abbrev pub fault_line : ℕ → ℕ → ℕ → ℕ → List ℕ
fault_line number fault address steps =
    decimal_of number ++ named (spelled " fault ") fault ++ named (spelled " at ") address
    ++ named (spelled " after ") steps
    ++ spelled "\n"

abbrev pub refused_line : ℕ → ℕ → List ℕ
refused_line number refusal = line_of number (spelled " refused ") refusal
