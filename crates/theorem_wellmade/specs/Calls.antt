-- Demand 1: every call of a well-made unit gives a well-made unit. Halt I/O and listing are left out: they alter no unit.
use Rattle.std.specs.Prelude.{ℕ, ◌≤◌, Bool, List}
use Rattle.ground_setup.specs.Setup.{size_of}
use Rattle.ground_setup.specs.declared.Size.{Size}
use Rattle.unit_head.specs.Head.{DisplayUnit, fresh_unit, switched_unit}
use Rattle.unit_loading.specs.Loading.{unit_load}
use Rattle.unit_commands.specs.Commands.{unit_command}
use Rattle.unit_advance.specs.Advance.{unit_advance}
use Rattle.typing_keys.specs.Keys.{unit_key}
use Rattle.theorem_roundtrips.specs.RoundTrips.{Bytes}
use Rattle.theorem_wellmade.specs.WellMade.{WellMade}

-- an array of n words has room for a buffer of any size
abbrev pub Houses : ℕ → Type 0
Houses n = (s : Size) → size_of s ≤ n

-- a fresh unit
abbrev pub FreshWell : Type 0
FreshWell = (n : ℕ) → Houses n → (s : Size) → WellMade n (fresh_unit n s)

-- loading a dump, of any words and under any size
abbrev pub LoadWell : Type 0
LoadWell = (n : ℕ) → Houses n → (u : DisplayUnit) → WellMade n u → (size : ℕ) (dump : List ℕ) → WellMade n (unit_load u size dump).unit

-- the switch, opened or closed
abbrev pub SwitchWell : Type 0
SwitchWell = (n : ℕ) (u : DisplayUnit) → WellMade n u → (closed : Bool) → WellMade n (switched_unit u closed)

-- a command, of any code, with any bytes and any room
abbrev pub CommandWell : Type 0
CommandWell =
    (n : ℕ) (u : DisplayUnit)
    → WellMade n u
    → (code : ℕ) (bytes room : List ℕ)
    → Bytes bytes
    → WellMade n (unit_command u code bytes room).unit

-- advancing, with any sights
abbrev pub AdvanceWell : Type 0
AdvanceWell = (n : ℕ) (u : DisplayUnit) → WellMade n u → (sights : List ℕ) → WellMade n (unit_advance u sights).unit

-- a key, of any number
abbrev pub KeyWell : Type 0
KeyWell = (n : ℕ) (u : DisplayUnit) → WellMade n u → (number : ℕ) → WellMade n (unit_key u number).unit
