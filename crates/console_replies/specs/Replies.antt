-- The lines that answer a request, but for what the buffer holds, drawn items and the unit's state.
use Rattle.std.specs.Prelude.{ℕ, Bool, cond, List, ◌++◌}
use Rattle.text_put.specs.Text.{spelled, named}

abbrev pub ok_line : List ℕ
ok_line = spelled "ok\n"

abbrev pub error_line : List ℕ
error_line = spelled "error\n"

-- `refused N`
abbrev pub refusal_line : ℕ → List ℕ
refusal_line n = named (spelled "refused ") n ++ spelled "\n"

-- `unheard`, or `heard`
abbrev pub heard_line : Bool → List ℕ
heard_line heard = cond heard (spelled "heard\n") (spelled "unheard\n")

-- `ran STEPS end WHY items N`
abbrev pub ran_line : ℕ → ℕ → ℕ → List ℕ
ran_line steps why items =
    named (spelled "ran ") steps ++ named (spelled " end ") why ++ named (spelled " items ") items ++ spelled "\n"
