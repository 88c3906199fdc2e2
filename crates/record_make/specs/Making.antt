-- How a record of kind 1 is made. 01, "Record: payload length (4 bytes), kind (2 bytes), payload, little-endian. Kind 1: size (2),
-- start (2), the image."
use Rattle.std.specs.Prelude.{ℕ, ◌+◌, ◌/◌, ◌%◌, List, ◌∷◌, length}

-- little-endian: a number as two and as four bytes, the low one first, and what stands behind them
abbrev pub bytes16 : ℕ → List ℕ → List ℕ
bytes16 n rest = n % 256 ∷ n / 256 % 256 ∷ rest

abbrev pub bytes32 : ℕ → List ℕ → List ℕ
bytes32 n rest = bytes16 n (bytes16 (n / 65536) rest)

-- THE RECORD of an image: the payload's length counts size and start with the image's bytes
abbrev pub record_of : List ℕ → ℕ → ℕ → List ℕ
record_of image size start = bytes32 (length image + 4) (bytes16 1 (bytes16 size (bytes16 start image)))
