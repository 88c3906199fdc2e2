-- What a true number of set cursor bits tells, and that the calls that use it answer as they did by their searches (02, C-15).
use Rattle.std.specs.Prelude.{ℕ, ◌<◌, ◌≡◌, true, false, List}
use Rattle.ground_setup.specs.Setup.{size_of}
use Rattle.unit_cursor.specs.Cursor.{cursor_here, any_set}
use Rattle.unit_head.specs.Head.{DisplayUnit, size_in, buffer_of}
use Rattle.unit_commands.specs.Commands.{read_by}
use Rattle.typing_seek.specs.Seek.{cursor_in}
use Rattle.typing_keys.specs.Keys.{sought_in}
use Rattle.theorem_wellmade.specs.WellMade.{WellMade}

-- no location of the buffer has a cursor
abbrev pub AllBare : DisplayUnit → Type 0
AllBare u = (k : ℕ) → k < size_of (size_in u) → cursor_here (buffer_of u) k ≡ false

-- "Is there any cursor at all?": no exactly where no location has one
pub record Tells (u : DisplayUnit) : Type 0 where
  pub none : any_set u.head.cursor ≡ false → AllBare u
  pub any : AllBare u → any_set u.head.cursor ≡ false

abbrev pub AnyTells : Type 0
AnyTells = (n : ℕ) (u : DisplayUnit) → WellMade n u → Tells u

-- Read Cursor answers as one that seeks the cursor whether there is any or not
abbrev pub ReadsAlike : Type 0
ReadsAlike = (n : ℕ) (u : DisplayUnit) → WellMade n u → (room : List ℕ) → read_by u (any_set u.head.cursor) room ≡ read_by u true room

-- a key finds the cursor that a search finds
abbrev pub FindsAlike : Type 0
FindsAlike = (n : ℕ) (u : DisplayUnit) → WellMade n u → sought_in u ≡ cursor_in (buffer_of u) (size_in u)
