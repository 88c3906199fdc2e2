-- A stretch of plain data, listed: what the steps draw that stand ahead, put behind the items that the list holds.
use Rattle.std.specs.Prelude.{ℕ, ◌≡◌, Bool, false, cond, List, length, take, Some}
use Rattle.ground_look.specs.Look.{placing}
use Rattle.ground_orders.specs.declared.Mode.{Mode}
use Rattle.unit_beam.specs.Beam.{placed, shifted, blanked_place, blanked_step}
use Rattle.unit_beam.specs.declared.Beam.{Beam}
use Rattle.unit_beam.specs.declared.Shift.{Shift}
use Rattle.unit_beam.specs.declared.CharacterSize.{CharacterSize}
use Rattle.unit_motion.specs.Motion.{trace_by, data_motion}
use Rattle.unit_motion.specs.declared.Motion.TheVariants.{To, Codes}
use Rattle.unit_motion.specs.declared.Moved.TheVariants.{Absolute, Increment}
use Rattle.unit_motion.specs.declared.Trace.TheVariants as trace
use Rattle.unit_drawing.specs.Drawing.{point_at, vector_at}
use Rattle.unit_items.specs.Items.{listing, listed}
use Rattle.unit_items.specs.declared.Item.{Item}
use Rattle.unit_cursor.specs.Cursor.{Buffer}
use Rattle.unit_head.specs.declared.State.{State}
use Rattle.unit_step.specs.Run.{items_run, GoesOver}
use Rattle.unit_ahead.specs.declared.AheadListed.{AheadListed}

-- coordinates or increments: where they take the beam and whether they left the screen, whether they are blanked, and what they draw
abbrev pub led_to : Bool → ℕ → ℕ → ℕ → ℕ → Beam → Shift
led_to places a b c d beam = cond places (record { to = placed a b c d; off = false }) (shifted beam a b)

abbrev pub blanked_of : Bool → ℕ → ℕ → Bool
blanked_of places a b = cond places (blanked_place a) (blanked_step b)

abbrev pub trace_item : Bool → Beam → Beam → Bool → ℕ → Item
trace_item vector from to off at = cond vector (vector_at from to off at) (point_at to off at)

-- a mode whose data are such coordinates or increments, and leave points or vectors
abbrev pub Traces : Mode → Bool → Type 0
Traces m vector =
    (a b c d : ℕ) (beam : Beam)
    → data_motion m a b c d beam
    ≡ To (cond (placing m) Absolute (Increment (led_to (placing m) a b c d beam).off)) (trace_by (blanked_of (placing m) a b) (cond vector trace.Vector trace.Point)) (led_to (placing m) a b c d beam).to

-- a mode whose data are codes of this size
pub record Writes (m : Mode) (letters : CharacterSize) : Type 0 where
  pub codes : (a b c d : ℕ) (beam : Beam) → data_motion m a b c d beam ≡ Codes letters a b
  pub two : placing m ≡ false

-- A STRETCH IS LISTED: the steps go on, and what they draw fits and is put behind the items that the list holds
pub record ListsAhead (b : Buffer) (sights : List ℕ) (s : State) (held : ℕ) (out : List ℕ) (r : AheadListed) (out' : List ℕ) : Type 0 where
  pub behind : State
  pub gone : GoesOver b.words sights s r.steps behind
  pub holds : listing (length out) held (items_run b (take r.steps sights) s) ≡ Some r.held
  pub puts : out' ≡ listed out held (items_run b (take r.steps sights) s)
