-- One step of a unit that runs (01, "One step of regeneration" and "The pen"): what it makes of the state, and what it draws.
use Rattle.std.specs.Prelude.{ℕ, Bool, false, cond, List, None, Option, Some}
use Rattle.ground_orders.specs.declared.Mode.{Mode}
use Rattle.ground_orders.specs.declared.Mode.TheVariants.{Idle}
use Rattle.ground_groups.specs.Groups.{words_group}
use Rattle.ground_look.specs.Look.{look_of}
use Rattle.ground_look.specs.declared.Look.{Look}
use Rattle.ground_look.specs.declared.Look.TheVariants as look
use Rattle.unit_beam.specs.declared.Beam.{Beam}
use Rattle.unit_pen.specs.Pen.{ordered, timed, seen_of, detected, transfers, transferred}
use Rattle.unit_pen.specs.declared.Pen.{Pen}
use Rattle.unit_motion.specs.Motion.{motion_of, beam_after}
use Rattle.unit_motion.specs.declared.Motion.{Motion}
use Rattle.unit_drawing.specs.Drawing.{strokes_of, upto, hit_in}
use Rattle.unit_drawing.specs.declared.Hit.{Hit}
use Rattle.unit_items.specs.declared.Item.{Item}
use Rattle.unit_cursor.specs.Cursor.{Buffer, cursor_here}
use Rattle.unit_head.specs.declared.State.{State}
use Rattle.ground_setup.specs.Setup.{wrap_of, ahead_of}
use Rattle.unit_step.specs.declared.Stop.TheVariants as stop
use Rattle.unit_step.specs.declared.Stepped.{Stepped}
use Rattle.unit_step.specs.declared.Stepped.TheVariants as stepped

-- the look at the place of a state
abbrev pub look_at : List ℕ → State → Look
look_at words s = look_of (words_group words s.setup) s.setup s.address s.mode

-- the motion of a look from a state
abbrev pub motion_at : Look → State → Motion
motion_at l s = motion_of l s.mode s.beam

-- the state at another address and mode, still running
abbrev pub state_at : State → ℕ → Mode → State
state_at s a m = record { setup = s.setup; address = a; mode = m; running = s.running; beam = s.beam; pen = s.pen }

-- the state at another address, idle, with another pen
abbrev pub penned : State → ℕ → Pen → State
penned s a p = record { setup = s.setup; address = a; mode = Idle; running = s.running; beam = s.beam; pen = p }

-- the state at another address with the beam elsewhere
abbrev pub beamed : State → ℕ → Beam → State
beamed s a b = record { setup = s.setup; address = a; mode = s.mode; running = s.running; beam = b; pen = s.pen }

-- stopped at an address in a mode
abbrev pub stopped : State → ℕ → Mode → State
stopped s a m = record { setup = s.setup; address = a; mode = m; running = false; beam = s.beam; pen = s.pen }

-- "It stops regeneration after that item, the beam at the item's end", at the item's address
abbrev pub struck : State → ℕ → Beam → State
struck s a b = record { setup = s.setup; address = a; mode = s.mode; running = false; beam = b; pen = detected s.pen }

-- data: a detect, or on to the next address with the beam at b
abbrev pub data_to : State → Beam → ℕ → Option Hit → Stepped
data_to s b next None = stepped.Goes (beamed s next b)
data_to s b next (Some h) = stepped.Stops (struck s h.at h.end) stop.Detect

-- a Transfer On No Detect, by whether it goes
abbrev pub either_by : State → ℕ → ℕ → Bool → Stepped
either_by s target next goes =
    cond goes (stepped.Goes (penned s target (transferred s.pen))) (stepped.Goes (state_at s next Idle))

-- what a look makes of the state; h is the item that the sight falls on, b where data leave the beam. "Any fault stops regeneration at A
-- with no status (house)"; "bad parity stops with Data Check at that byte"; "End Order Sequence stops in idle, .. the address after it"
abbrev pub step_to : State → Beam → Option Hit → Look → Stepped
step_to s b h (look.Fault f) = stepped.Stops (stopped s s.address s.mode) (stop.Fault f)
step_to s b h (look.Check a) = stepped.Stops (stopped s a s.mode) stop.DataCheck
step_to s b h (look.Enter m next) = stepped.Goes (state_at s next m)
step_to s b h (look.Pass next) = stepped.Goes (state_at s next Idle)
step_to s b h (look.Timer next) = stepped.Goes (penned s next (timed s.pen))
step_to s b h (look.SetPen p next) = stepped.Goes (penned s next (ordered s.pen p))
step_to s b h (look.End next) = stepped.Stops (stopped s next Idle) stop.EndOrder
step_to s b h (look.Jump target) = stepped.Goes (state_at s target Idle)
step_to s b h (look.Either target next) = either_by s target next (transfers s.pen)
step_to s b h (look.Two x y next) = data_to s b next h
step_to s b h (look.Four x₁ x₂ y₁ y₂ next) = data_to s b next h

-- the item that what is seen falls on, by the motion
abbrev pub hit_by : State → Motion → ℕ → Option Hit
hit_by s m seen = hit_in seen (strokes_of m s.beam false false s.setup.size s.address)

-- a step over what stands at its place, with a sight
unfoldable pub step_over : State → Look → ℕ → Stepped
step_over s l sight = step_to s (beam_after (motion_at l s) s.beam) (hit_by s (motion_at l s) (seen_of s.pen sight)) l

-- THE STEP FROM A STATE, with a sight
unfoldable pub step_from : List ℕ → State → ℕ → Stepped
step_from words s sight = step_over s (look_at words s) sight

-- WHAT IT DRAWS, up to the item that a detect falls on; a cursor at A and one at A+1 are drawn too. A step that is not done moves nothing, and
-- so draws nothing
unfoldable pub items_drawn : Buffer → State → ℕ → List Item
items_drawn b s sight =
    upto (seen_of s.pen sight)
    (strokes_of (motion_at (look_at b.words s) s) s.beam
    (cursor_here b (wrap_of s.setup.size s.address)) (cursor_here b (ahead_of s.setup.size s.address 1))
    s.setup.size s.address)
