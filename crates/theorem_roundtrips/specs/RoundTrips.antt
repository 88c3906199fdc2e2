-- Demand 2: "On a stopped unit with no status waiting, up to one buffer of data, written at an address and read from it, comes back;
-- data read without a check and written back stands as before." Said with the commands themselves, for every unit and every size.
use Rattle.std.specs.Prelude.{ℕ, ◌/◌, ◌%◌, ◌≤◌, ◌<◌, ◌≡◌, false, List, [], ◌∷◌, length, get_or}
use Rattle.ground_location.specs.Location.{data_of}
use Rattle.ground_setup.specs.Setup.{size_of}
use Rattle.unit_head.specs.Head.{DisplayUnit, size_in}
use Rattle.unit_commands.specs.Commands.{CommandValues, CommandEnd, unit_command}

-- data are bytes
abbrev pub Bytes : List ℕ → Type 0
Bytes bytes = (i : ℕ) → i < length bytes → get_or bytes i 0 < 0x100

-- "a stopped unit with no status waiting", with a word for each location of its buffer, as every device has
pub record Quiet (u : DisplayUnit) : Type 0 where
  pub stopped : u.head.state.running ≡ false
  pub clear : u.head.status ≡ 0
  pub whole : size_of (size_in u) ≤ length u.words

-- the bytes of an address, high byte first
abbrev pub address_bytes : ℕ → List ℕ
address_bytes a = a / 0x100 ∷ a % 0x100 ∷ []

-- 07, Set Buffer Address and Stop, with any room lent
abbrev pub addressed : DisplayUnit → ℕ → List ℕ → DisplayUnit
addressed u a lent = (unit_command u 0x07 (address_bytes a) lent).unit

-- "written at an address": 07, then 01, Write Buffer, with any rooms lent
abbrev pub written : DisplayUnit → ℕ → List ℕ → List ℕ → List ℕ → DisplayUnit
written u a bytes lent lent' = (unit_command (addressed u a lent) 0x01 bytes lent').unit

-- "read from it": 07, then 02, Read Buffer, into a room
abbrev pub read : DisplayUnit → ℕ → List ℕ → List ℕ → CommandEnd
read u a lent room = unit_command (addressed u a lent) 0x02 [] room

-- the room has exactly the bytes, and the status is 0C with their count
pub record Gives (o : CommandEnd) (bytes : List ℕ) : Type 0 where
  pub given : o.room ≡ bytes
  pub status : o.answer ≡ CommandValues.ended 0x0C (length bytes)

-- "up to one buffer of data, written at an address and read from it, comes back": at every address, and across the end of the buffer
abbrev pub ComesBack : Type 0
ComesBack =
    (u : DisplayUnit) (a : ℕ) (bytes room lent₁ lent₂ lent₃ : List ℕ)
    → Quiet u
    → a < size_of (size_in u)
    → Bytes bytes
    → length bytes ≤ size_of (size_in u)
    → length room ≡ length bytes
    → Gives (read (written u a bytes lent₁ lent₂) a lent₃ room) bytes

-- the data of the location k
abbrev pub data_at : DisplayUnit → ℕ → ℕ
data_at u k = data_of (get_or u.words k 0)

-- "data read without a check and written back stands as before": in every location, also where the read went round more than once
abbrev pub Stands : Type 0
Stands =
    (u : DisplayUnit) (a n : ℕ) (room lent₁ lent₂ lent₃ : List ℕ)
    → Quiet u
    → a < size_of (size_in u)
    → (read u a lent₁ room).answer ≡ CommandValues.ended 0x0C n
    → (k : ℕ)
    → data_at (written (read u a lent₁ room).unit a (read u a lent₁ room).room lent₂ lent₃) k ≡ data_at u k
