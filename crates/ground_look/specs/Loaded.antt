-- Words that carry an image (01, "The validator": "An image is L bytes, written from address 0").
use Rattle.std.specs.Prelude.{◌≡◌, true, List, ℕ, ◌<◌, length, get_or}
use Rattle.ground_location.specs.Location.{data_of, written_of, good_of}

-- a location that carries a byte, with a cursor or without: it is written, its ones are odd in number, and its data are the byte
pub record Location (word b : ℕ) : Type 0 where
  pub written : written_of word ≡ true
  pub good : good_of word ≡ true
  pub byte : data_of word ≡ b

-- the image's own locations carry its bytes; nothing is said of those behind it
abbrev pub Carries : List ℕ → List ℕ → Type 0
Carries words image = (a : ℕ) → a < length image → Location (get_or words a 0) (get_or image a 0)
