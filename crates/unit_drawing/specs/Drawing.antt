-- What a step draws, in order, and what a sight makes of it (01, "Drawn item" and "The pen").
use Rattle.std.specs.Prelude.{ℕ, ◌-◌, Bool, true, false, cond, not, ◌&&◌, ◌||◌, List, [], ◌∷◌, ◌++◌, eqb, None, Option, Some}
use Rattle.unit_beam.specs.declared.Beam.{Beam}
use Rattle.unit_beam.specs.declared.CharacterSize.{CharacterSize}
use Rattle.unit_beam.specs.Beam.{ten_bits}
use Rattle.ground_setup.specs.declared.Size.{Size}
use Rattle.ground_setup.specs.Setup.{wrap_of, ahead_of}
use Rattle.unit_items.specs.declared.Item.{Item}
use Rattle.unit_items.specs.declared.Item.TheVariants.{Point, Vector, Character, Cursor}
use Rattle.unit_motion.specs.Codes.{draws, after_code}
use Rattle.unit_motion.specs.Motion.{off_of}
use Rattle.unit_motion.specs.declared.Trace.{Trace}
use Rattle.unit_motion.specs.declared.Trace.TheVariants as trace
use Rattle.unit_motion.specs.declared.Motion.{Motion}
use Rattle.unit_motion.specs.declared.Motion.TheVariants.{Still, To, Codes}
use Rattle.unit_drawing.specs.declared.Hit.{Hit}

-- an item, and where the beam stands behind it
pub record Stroke : Type 0 where
  pub item : Item
  pub end : Beam

abbrev pub stroke : Item → Beam → Stroke
stroke i b = record { item = i; end = b }

-- the items by their places; "From equals to except for vectors"
abbrev pub point_at : Beam → Bool → ℕ → Item
point_at to off at = Point (ten_bits to.x) (ten_bits to.y) off at

abbrev pub vector_at : Beam → Beam → Bool → ℕ → Item
vector_at from to off at = Vector (ten_bits from.x) (ten_bits from.y) (ten_bits to.x) (ten_bits to.y) off at

abbrev pub character_at : CharacterSize → ℕ → Beam → ℕ → Item
character_at size code beam at = Character size (ten_bits beam.x) (ten_bits beam.y) code at

-- "A cursor item follows its character or blank, at the same place with the same code and size"
abbrev pub cursor_at : CharacterSize → ℕ → Beam → ℕ → Item
cursor_at size code beam at = Cursor size (ten_bits beam.x) (ten_bits beam.y) code at

-- what coordinates draw: nothing, a point, or a vector from where the beam stood, also where it has no length; both tell whether
-- the screen was left (02, C-19)
abbrev pub trace_strokes : Trace → Beam → Beam → Bool → ℕ → List Stroke
trace_strokes trace.Blanked beam to off at = []
trace_strokes trace.Point beam to off at = stroke (point_at to off at) to ∷ []
trace_strokes trace.Vector beam to off at = stroke (vector_at beam to off at) to ∷ []

-- a cursor "on null and new line .. is drawn only if 000 or 001 says so": on null it is not displayed (001 4-8), on new line no book shows one
unfoldable pub shows_cursor : ℕ → Bool
shows_cursor code = not (eqb code 0x00 || eqb code 0x15)

-- whether a code that the cursor bit marks shows its cursor
unfoldable pub has_cursor : Bool → ℕ → Bool
has_cursor marked code = marked && shows_cursor code

-- what a code draws: its character, then its cursor
unfoldable pub code_strokes : CharacterSize → ℕ → Bool → Beam → ℕ → List Stroke
code_strokes size code marked beam at =
    cond (draws code) (stroke (character_at size code beam at) (after_code size code beam) ∷ []) []
    ++ cond (has_cursor marked code) (stroke (cursor_at size code beam at) (after_code size code beam) ∷ []) []

-- two codes, the second where the first leaves the beam
unfoldable pub codes_strokes : CharacterSize → ℕ → ℕ → Bool → Bool → Beam → ℕ → ℕ → List Stroke
codes_strokes size a b c0 c1 beam at next =
    code_strokes size a c0 beam at ++ code_strokes size b c1 (after_code size a beam) next

-- what a step draws, in order: its motion, where the beam stood, the cursor bits of A and A+1, the buffer's size and A
unfoldable pub strokes_of : Motion → Beam → Bool → Bool → Size → ℕ → List Stroke
strokes_of Still beam c0 c1 size at = []
strokes_of (To k t to) beam c0 c1 size at = trace_strokes t beam to (off_of k) (wrap_of size at)
strokes_of (Codes s a b) beam c0 c1 size at = codes_strokes s a b c0 c1 beam (wrap_of size at) (ahead_of size at 1)

-- what is drawn first, by the coordinates or by the code at A
unfoldable pub first_strokes : Motion → Beam → Bool → Size → ℕ → List Stroke
first_strokes Still beam c0 size at = []
first_strokes (To k t to) beam c0 size at = trace_strokes t beam to (off_of k) (wrap_of size at)
first_strokes (Codes s a b) beam c0 size at = code_strokes s a c0 beam (wrap_of size at)

-- "the first or second point, vector or character drawn in that step (cursors not counted ..)"
abbrev pub counts : Item → Bool
counts (Point x y off at) = true
counts (Vector x₀ y₀ x y off at) = true
counts (Character size x y code at) = true
counts (Cursor size x y code at) = false

abbrev pub item_address : Item → ℕ
item_address (Point x y off at) = at
item_address (Vector x₀ y₀ x y off at) = at
item_address (Character size x y code at) = at
item_address (Cursor size x y code at) = at

-- whether the sight falls on this item, and the sight for those behind it
abbrev pub falls : ℕ → Item → Bool
falls sight i = counts i && eqb sight 1

abbrev pub left : ℕ → Item → ℕ
left sight i = cond (counts i) (sight - 1) sight

-- the items drawn: "It stops regeneration after that item, .. nothing later drawn"; sight 0 falls on none
unfoldable pub upto : ℕ → List Stroke → List Item
upto sight [] = []
upto sight (s ∷ ss) = s.item ∷ cond (falls sight s.item) [] (upto (left sight s.item) ss)

-- the item hit: its address, and "the beam at the item's end", behind a character where the next would stand (000 p.20)
abbrev pub hit : ℕ → Beam → Hit
hit at end = record { at = at; end = end }

-- where the sight falls
unfoldable pub hit_in : ℕ → List Stroke → Option Hit
hit_in sight [] = None
hit_in sight (s ∷ ss) = cond (falls sight s.item) (Some (hit (item_address s.item) s.end)) (hit_in (left sight s.item) ss)
