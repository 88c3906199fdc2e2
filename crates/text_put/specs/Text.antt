-- Text as bytes: what a buffer holds once a text was put into it, and how numbers are spelled.
use Rattle.std.specs.Prelude.{ℕ, zero, suc, ◌+◌, ◌-◌, ◌/◌, ◌%◌, min, cond, List, [], ◌∷◌, ◌++◌, length, ltb}
use Prim.Native.Char.{code}
use Prim.Native.String.{String}
use Prim.Native.String as string
use Rattle.std.proofs.Math.Seq.{paste}

-- a word of the printed lines, letter by letter
abbrev pub spelled : String → List ℕ
spelled string.[] = []
spelled (string.◌∷◌ letter rest) = code letter ∷ spelled rest

-- a buffer once a text was put into it from a place on: as much of the text as there is room for stands there, and all
-- else is as before
unfoldable pub put_at : List ℕ → ℕ → List ℕ → List ℕ
put_at buffer at text = paste buffer at text (min (length text) (length buffer - at))

-- where a text that was put there ends
unfoldable pub end_of : List ℕ → ℕ → List ℕ → ℕ
end_of buffer at text = min (at + length text) (length buffer)

-- 01, "all decimal": the digits of a number, the highest first, no zero in front; `most` of them at most
unfoldable pub decimal_in : ℕ → ℕ → List ℕ
decimal_in zero n = []
decimal_in (suc most) n = cond (ltb n 10) ((48 + n) ∷ []) (decimal_in most (n / 10) ++ ((48 + n % 10) ∷ []))

-- a number of 64 bits has twenty digits at most
abbrev pub decimal_of : ℕ → List ℕ
decimal_of n = decimal_in 20 n

-- a word and the number behind it
abbrev pub named : List ℕ → ℕ → List ℕ
named word n = word ++ decimal_of n

-- a hexadecimal digit, its letters capital
abbrev pub hex_digit : ℕ → ℕ
hex_digit d = cond (ltb d 10) (48 + d) (55 + d)

-- a byte in two digits, a word in four
abbrev pub hex_byte : ℕ → List ℕ
hex_byte byte = hex_digit (byte / 16) ∷ hex_digit (byte % 16) ∷ []

abbrev pub hex_word : ℕ → List ℕ
hex_word word = hex_byte (word / 256) ++ hex_byte (word % 256)
