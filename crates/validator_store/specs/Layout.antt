-- The working store's layout, over the size of the buffer.
use Rattle.std.specs.Prelude.{ℕ, ◌+◌, ◌*◌, ◌/◌, max}
use Rattle.ground_setup.specs.Setup.{size_of}
use Rattle.ground_setup.specs.declared.Size.{Size}
use Rattle.validator_walks.specs.Places.{half_of, places_of}

-- 01, "The validator": "The working store is 32,768 bytes"; three bytes for each location are 98,304 for 32,768 locations (02, C-18)
abbrev pub room_of : Size → ℕ
room_of size = max 32768 (3 * size_of size)

-- both ways of a step lie below this number: the idle places come first
abbrev pub twos_of : Size → ℕ
twos_of size = half_of size

-- the bits of the places take this many bytes, and the entries lie behind them
abbrev pub base_of : Size → ℕ
base_of size = places_of size / 8 + 1

-- this many entries are kept at once
abbrev pub cap_of : Size → ℕ
cap_of size = twos_of size / 2 + 1

-- the bytes in use
abbrev pub top_of : Size → ℕ
top_of size = base_of size + 3 * cap_of size
