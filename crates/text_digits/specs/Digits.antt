-- Digits: numbers in capital hexadecimal, without separators.
use Rattle.std.specs.Prelude.{ℕ, ◌+◌, ◌*◌, ◌-◌, ◌%◌, Bool, cond, ◌&&◌, List, get_or, ltb, leb}
use Rattle.std.specs.List.{list_all}

-- a digit's value, capital letters from ten on; 16 is none
abbrev pub hex_value : ℕ → ℕ
hex_value byte =
    cond (leb 48 byte && leb byte 57) (byte - 48) (cond (leb 65 byte && leb byte 70) (byte - 55) 16)

-- digits of a base, ten or sixteen
unfoldable pub all_below : ℕ → List ℕ → Bool
all_below base text = list_all (λ byte. ltb (hex_value byte) base) text

-- the value of the digit at a place, the byte that two digits are, and the word that four are
unfoldable pub digit_at : List ℕ → ℕ → ℕ
digit_at text at = hex_value (get_or text at 0)

unfoldable pub hex_byte_at : List ℕ → ℕ → ℕ
hex_byte_at text at = (16 * digit_at text at + digit_at text (at + 1)) % 256

unfoldable pub hex_word_at : List ℕ → ℕ → ℕ
hex_word_at text at = 256 * hex_byte_at text at + hex_byte_at text (at + 2)
