-- Drawn items (01, "Drawn item") and the list that takes them.
use Rattle.std.specs.Prelude.{ℕ, ◌+◌, ◌-◌, ◌*◌, ◌/◌, Bool, true, false, cond, List, [], ◌∷◌, ◌++◌, length, leb, None, Option, Some}
use Rattle.std.proofs.lemmas.List.Edits.{sets}
use Rattle.unit_beam.specs.declared.CharacterSize.{CharacterSize}
use Rattle.unit_beam.specs.declared.CharacterSize.TheVariants.{Basic, Large}
use Rattle.unit_items.specs.declared.Item.{Item}
use Rattle.unit_items.specs.declared.Item.TheVariants.{Point, Vector, Character, Cursor}
use Rattle.unit_items.specs.declared.Part.{Part}
use Rattle.unit_items.specs.declared.Part.TheVariants.{Nothing, One, Two}
use Rattle.unit_items.specs.declared.Drawn.{Drawn}

-- "size (1 basic, 2 large)"
abbrev pub size_number : CharacterSize → ℕ
size_number Basic = 1
size_number Large = 2

-- "A point or vector drawn by such a step carries 1 in its code field, otherwise 0." (02, C-19)
abbrev pub off_number : Bool → ℕ
off_number true = 1
off_number false = 0

-- "eight 16-bit numbers: kind (1 point, 2 vector, 3 character, 4 cursor), from X, from Y, to X, to Y, code, size .., address of its
-- first byte. From equals to except for vectors; code and size are 0 for 1 and 2", and since C-19 their code tells whether the screen was left
abbrev pub numbers_of : Item → List ℕ
numbers_of (Point x y off at) = 1 ∷ x ∷ y ∷ x ∷ y ∷ off_number off ∷ 0 ∷ at ∷ []
numbers_of (Vector x₀ y₀ x y off at) = 2 ∷ x₀ ∷ y₀ ∷ x ∷ y ∷ off_number off ∷ 0 ∷ at ∷ []
numbers_of (Character size x y code at) = 3 ∷ x ∷ y ∷ x ∷ y ∷ code ∷ size_number size ∷ at ∷ []
numbers_of (Cursor size x y code at) = 4 ∷ x ∷ y ∷ x ∷ y ∷ code ∷ size_number size ∷ at ∷ []

-- the numbers of several items, one item after the other
abbrev pub numbers : List Item → List ℕ
numbers [] = []
numbers (i ∷ is) = numbers_of i ++ numbers is

-- the items of a part, and of a step
abbrev pub items_in : Part → List Item
items_in Nothing = []
items_in (One i) = i ∷ []
items_in (Two i j) = i ∷ j ∷ []

unfoldable pub items_of : Drawn → List Item
items_of d = items_in d.first ++ items_in d.second

-- whether items fit a list of so many numbers, eight an item, behind those that it holds: where it is told to hold more than it has room for,
-- none is left
abbrev pub fits : ℕ → ℕ → List Item → Bool
fits room held items = leb (length items) (room / 8 - held)

-- how many items the list holds afterwards, if they fit
unfoldable pub listing : ℕ → ℕ → List Item → Option ℕ
listing room held items = cond (fits room held items) (Some (held + length items)) None

-- the list afterwards: their numbers stand behind those of the items that it holds; a list with no room for all stays as it was
unfoldable pub listed : List ℕ → ℕ → List Item → List ℕ
listed out held items = cond (fits (length out) held items) (sets out (held * 8) (numbers items)) out
