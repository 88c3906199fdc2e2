-- An answer in one number: its highest byte says which, 0 passed or ran, 1 fault, 2 refused.
use Rattle.std.specs.Prelude.{ℕ, ◌+◌}

-- refused: the number of the refusal
abbrev pub refused_number : ℕ → ℕ
refused_number n = 0x200000000000000 + n
