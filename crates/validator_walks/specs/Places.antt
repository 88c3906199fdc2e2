-- Places (01, "One step of regeneration": "A place is an even address A and a mode") and their numbers.
use Rattle.std.specs.Prelude.{◌≡◌, ℕ, zero, suc, ◌+◌, ◌*◌, ◌/◌, ◌%◌, ◌<◌}
use Rattle.ground_setup.specs.Setup.{size_of}
use Rattle.ground_setup.specs.declared.Size.{Size}
use Rattle.ground_orders.specs.declared.Mode.{Mode}
use Rattle.ground_orders.specs.declared.Mode.TheVariants.{Idle, Point, Vector, IncrementalPoint, IncrementalVector, Basic, Large}
use Rattle.validator_walks.specs.declared.Place.{Place}

abbrev pub place : ℕ → Mode → Place
place a m = record { at = a; mode = m }

-- a place of a buffer: its address is even and inside
pub record Proper (size : Size) (p : Place) : Type 0 where
  pub even : p.at % 2 ≡ 0
  pub inside : p.at < size_of size

-- "idle, point, vector, incremental point, incremental vector, basic characters, large characters"
abbrev pub mode_number : Mode → ℕ
mode_number Idle = 0
mode_number Point = 1
mode_number Vector = 2
mode_number IncrementalPoint = 3
mode_number IncrementalVector = 4
mode_number Basic = 5
mode_number Large = 6

-- the even addresses of a buffer
abbrev pub half_of : Size → ℕ
half_of size = size_of size / 2

-- "at most 4,096 by 7"
abbrev pub places_of : Size → ℕ
places_of size = 7 * half_of size

-- a place's number: a block for each mode, in it a place for each even address
abbrev pub number_of : Size → Place → ℕ
number_of size p = mode_number p.mode * half_of size + p.at / 2

-- the mode of a number
abbrev pub mode_of : ℕ → Mode
mode_of zero = Idle
mode_of (suc zero) = Point
mode_of (suc (suc zero)) = Vector
mode_of (suc (suc (suc zero))) = IncrementalPoint
mode_of (suc (suc (suc (suc zero)))) = IncrementalVector
mode_of (suc (suc (suc (suc (suc zero))))) = Basic
mode_of (suc (suc (suc (suc (suc (suc n)))))) = Large

-- the address of a place's number, and the place
abbrev pub address_of : Size → ℕ → ℕ
address_of size n = 2 * (n % half_of size)

abbrev pub place_of : Size → ℕ → Place
place_of size n = place (address_of size n) (mode_of (n / half_of size))
