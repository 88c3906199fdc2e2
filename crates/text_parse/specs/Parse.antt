-- Numbers that are read from text.
use Rattle.std.specs.Prelude.{ℕ, ◌+◌, ◌*◌, ◌-◌, Bool, cond, ◌&&◌, List, [], ◌∷◌, length, leb, Option, Some, None}

-- the decimal digits
abbrev pub digit : ℕ → Bool
digit byte = leb 48 byte && leb byte 57

-- the number that digits make behind those that made n
unfoldable pub number_from : ℕ → List ℕ → Option ℕ
number_from n [] = Some n
number_from n (byte ∷ rest) = cond (digit byte) (number_from (n * 10 + (byte - 48)) rest) None

-- a decimal number of one to five digits
abbrev pub parsed_of : List ℕ → Option ℕ
parsed_of text = cond (leb 1 (length text) && leb (length text) 5) (number_from 0 text) None
