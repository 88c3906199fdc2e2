-- The pieces that printed lines are made of: words with their numbers, and texts one behind the other.
use Rattle.std.specs.Prelude.{ℕ, zero, suc, List, [], ◌++◌}
use Rattle.text_put.specs.Text.{spelled, hex_byte, named}

-- a word and two numbers behind it, parted by a space
abbrev pub paired : List ℕ → ℕ → ℕ → List ℕ
paired word x y = named word x ++ named (spelled " ") y

-- a word and a byte behind it, in two hexadecimal digits
abbrev pub byte_named : List ℕ → ℕ → List ℕ
byte_named word byte = word ++ hex_byte byte

-- the texts of 0, 1, .. one behind the other, n of them
unfoldable pub each_of : {X : Type 0} → (ℕ → List X) → ℕ → List X
each_of text zero = []
each_of text (suc n) = each_of text n ++ text n
