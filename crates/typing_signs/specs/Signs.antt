-- What stands at a location, as the keyboard sees it (C-13): an order and its code, a new line.
use Rattle.std.specs.Prelude.{ℕ, ◌+◌, ◌-◌, ◌%◌, Bool, ◌&&◌, List, eqb, get_or}
use Rattle.ground_location.specs.Location.{data_of}
use Rattle.ground_setup.specs.Setup.{size_of, wrap_of, ahead_of}
use Rattle.ground_setup.specs.declared.Size.{Size}

-- the word and the data at an address: "Addresses go round at the buffer's size."
abbrev pub word_at : List ℕ → Size → ℕ → ℕ
word_at words s a = get_or words (wrap_of s a) 0

unfoldable pub byte_at : List ℕ → Size → ℕ → ℕ
byte_at words s a = data_of (word_at words s a)

-- the code of an order at A
unfoldable pub code_at : List ℕ → Size → ℕ → ℕ
code_at words s a = byte_at words s (ahead_of s a 1)

-- the address k before A, round the buffer
abbrev pub back_of : Size → ℕ → ℕ → ℕ
back_of s a k = wrap_of s (wrap_of s a + (size_of s - k))

-- the even address of a location's pair
abbrev pub even_of : Size → ℕ → ℕ
even_of s a = wrap_of s a - wrap_of s a % 2

-- "A 2A at an odd address is data": the first byte of an order is a 2A at an even address
unfoldable pub order_at : List ℕ → Size → ℕ → Bool
order_at words s a = eqb (wrap_of s a % 2) 0 && eqb (byte_at words s a) 0x2A

-- "Code 15 is a new line by itself."
unfoldable pub line_at : List ℕ → Size → ℕ → Bool
line_at words s a = eqb (byte_at words s a) 0x15
