-- Demand 1: "a refusal alters neither device nor lent memory", one statement for each public call; and "Regeneration never stores".
-- What a call only reads, the bytes sent, a dump, the sights, an image, it cannot alter.
use Rattle.std.specs.Prelude.{ℕ, ◌≡◌, List}
use Rattle.unit_head.specs.Head.{DisplayUnit}
use Rattle.unit_loading.specs.Loading.{LoadValues, unit_load}
use Rattle.unit_commands.specs.Commands.{CommandValues, unit_command}
use Rattle.unit_advance.specs.Advance.{AdvanceValues, unit_advance}
use Rattle.unit_list.specs.List.{ListValues, unit_list}
use Rattle.validator_verdict.specs.Verdict.{VerdictValues, Tried, Judged}

-- a unit and a lent memory that are as they were
pub record AsBefore (u u' : DisplayUnit) (lent lent' : List ℕ) : Type 0 where
  pub unit : u' ≡ u
  pub memory : lent' ≡ lent

-- a command that is refused, by whichever number, alters neither the unit nor the room
abbrev pub CommandRefused : Type 0
CommandRefused =
    (u : DisplayUnit) (code : ℕ) (bytes room : List ℕ) (n : ℕ)
    → (unit_command u code bytes room).answer ≡ CommandValues.refused n
    → AsBefore u (unit_command u code bytes room).unit room (unit_command u code bytes room).room

-- a dump that is refused does not alter the unit
abbrev pub LoadRefused : Type 0
LoadRefused =
    (u : DisplayUnit) (size : ℕ) (dump : List ℕ) (n : ℕ) → (unit_load u size dump).answer ≡ LoadValues.refused n → (unit_load u size dump).unit ≡ u

-- advancing whose sights are refused does not alter the unit
abbrev pub AdvanceRefused : Type 0
AdvanceRefused =
    (u : DisplayUnit) (sights : List ℕ) (n : ℕ) → (unit_advance u sights).answer ≡ AdvanceValues.refused n → (unit_advance u sights).unit ≡ u

-- listing whose sight is refused does not alter the list; nor does listing into one that is full
abbrev pub ListRefused : Type 0
ListRefused =
    (u : DisplayUnit) (sight held : ℕ) (out : List ℕ) (n : ℕ)
    → (unit_list u sight held out).answer ≡ ListValues.refused n
    → (unit_list u sight held out).list ≡ out

abbrev pub FullKept : Type 0
FullKept =
    (u : DisplayUnit) (sight held : ℕ) (out : List ℕ)
    → (unit_list u sight held out).answer ≡ ListValues.full
    → (unit_list u sight held out).list ≡ out

-- an image that is refused does not alter the working store
abbrev pub ImageRefused : Type 0
ImageRefused =
    (t : Tried) (image : List ℕ) (start n : ℕ) (store left : List ℕ) (v : VerdictValues)
    → Judged t image start store left v
    → v ≡ VerdictValues.refused n
    → left ≡ store

-- "Regeneration never stores": advancing changes no word
abbrev pub NeverStores : Type 0
NeverStores = (u : DisplayUnit) (sights : List ℕ) → (unit_advance u sights).unit.words ≡ u.words
