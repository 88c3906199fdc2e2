-- Worked cases of the list: the eight numbers of an item of each kind, and which items fit.
use Rattle.std.specs.Prelude.{◌≡◌, refl, true, false, [], ◌∷◌, None, Some}
use Rattle.unit_beam.specs.declared.CharacterSize.TheVariants.{Basic, Large}
use Rattle.unit_items.specs.declared.Item.TheVariants.{Point, Vector, Character, Cursor}
use Rattle.unit_items.specs.Items.{numbers_of, listing}

-- "kind (1 point, 2 vector, 3 character, 4 cursor), from X, from Y, to X, to Y, code, size (1 basic, 2 large), address"
pub record ItemCases : Type 0 where
  pub point : numbers_of (Point 5 6 false 10) ≡ 1 ∷ 5 ∷ 6 ∷ 5 ∷ 6 ∷ 0 ∷ 0 ∷ 10 ∷ []
  pub point_off : numbers_of (Point 5 6 true 10) ≡ 1 ∷ 5 ∷ 6 ∷ 5 ∷ 6 ∷ 1 ∷ 0 ∷ 10 ∷ []
  pub vector : numbers_of (Vector 3 4 5 6 false 10) ≡ 2 ∷ 3 ∷ 4 ∷ 5 ∷ 6 ∷ 0 ∷ 0 ∷ 10 ∷ []
  pub vector_off : numbers_of (Vector 3 4 5 6 true 10) ≡ 2 ∷ 3 ∷ 4 ∷ 5 ∷ 6 ∷ 1 ∷ 0 ∷ 10 ∷ []
  pub character : numbers_of (Character Large 5 6 0xC1 10) ≡ 3 ∷ 5 ∷ 6 ∷ 5 ∷ 6 ∷ 0xC1 ∷ 2 ∷ 10 ∷ []
  pub cursor : numbers_of (Cursor Basic 5 6 0x40 11) ≡ 4 ∷ 5 ∷ 6 ∷ 5 ∷ 6 ∷ 0x40 ∷ 1 ∷ 11 ∷ []

pub item_cases : ItemCases
item_cases = record { point = refl; point_off = refl; vector = refl; vector_off = refl; character = refl; cursor = refl }

-- two items fit sixteen numbers, and not fifteen; one fits behind one; nothing fits any list, one told to hold more than it has room for too
pub record FitCases : Type 0 where
  pub just : listing 16 0 (Point 5 6 false 10 ∷ Point 7 8 false 14 ∷ []) ≡ Some 2
  pub short : listing 15 0 (Point 5 6 false 10 ∷ Point 7 8 false 14 ∷ []) ≡ None
  pub behind : listing 16 1 (Point 5 6 false 10 ∷ []) ≡ Some 2
  pub beyond : listing 16 3 (Point 5 6 false 10 ∷ []) ≡ None
  pub nothing : listing 8 3 [] ≡ Some 3

pub fit_cases : FitCases
unfolding listing
fit_cases = record { just = refl; short = refl; behind = refl; beyond = refl; nothing = refl }
