-- What stands behind the end of a text of digits.
use Prim.Native.Nat.{ℕ, ◌+◌, ◌≤◌}
use mathlib.Core.Path.{◌≡◌}
use mathlib.Core.List.{List}
use native.Mathlib.Omega.{arith}
use lib.ListN.{length, get_or-eq_default}
use Rattle.text_digits.specs.Digits.{digit_at, hex_byte_at, hex_word_at}

-- behind its end a text has no digits
pub no_digit : (text : List ℕ) (at : ℕ) → length text ≤ at → digit_at text at ≡ 16
unfolding digit_at
no_digit text at h = rw (get_or-eq_default text 0 {n = at} h)

pub no_byte : (text : List ℕ) (at : ℕ) → length text ≤ at → hex_byte_at text at ≡ 16
unfolding hex_byte_at
no_byte text at h = rw (no_digit text at h, no_digit text (at + 1) (omega arith))

pub no_word : (text : List ℕ) (at : ℕ) → length text ≤ at → hex_word_at text at ≡ 4112
unfolding hex_word_at
no_word text at h = rw (no_byte text at h, no_byte text (at + 2) (omega arith))
