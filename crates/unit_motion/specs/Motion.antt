-- What a step does with the beam: what its look and its mode come to, and where the beam stands afterwards.
use Rattle.std.specs.Prelude.{ℕ, Bool, false, cond}
use Rattle.unit_beam.specs.declared.Beam.{Beam}
use Rattle.unit_beam.specs.declared.CharacterSize.TheVariants as size
use Rattle.unit_beam.specs.Beam.{placed, blanked_place, stepped, leaves_screen, blanked_step}
use Rattle.ground_orders.specs.declared.Mode.{Mode}
use Rattle.ground_orders.specs.declared.Mode.TheVariants as mode
use Rattle.ground_look.specs.Look.{placing}
use Rattle.ground_look.specs.declared.Look.{Look}
use Rattle.ground_look.specs.declared.Look.TheVariants as look
use Rattle.unit_motion.specs.Codes.{after_code}
use Rattle.unit_motion.specs.declared.Trace.{Trace}
use Rattle.unit_motion.specs.declared.Trace.TheVariants as trace
use Rattle.unit_motion.specs.declared.Moved.{Moved}
use Rattle.unit_motion.specs.declared.Moved.TheVariants as moved
use Rattle.unit_motion.specs.declared.Motion.{Motion}
use Rattle.unit_motion.specs.declared.Motion.TheVariants.{Still, To, Codes}

-- "Blanked coordinates move the beam and draw nothing."
abbrev pub trace_by : Bool → Trace → Trace
trace_by blanked t = cond blanked trace.Blanked t

-- an increment, which tells whether it left the screen (02, C-19)
abbrev pub by_increment : Trace → ℕ → ℕ → Beam → Motion
by_increment t a b beam = To (moved.Increment (leaves_screen beam a b)) (trace_by (blanked_step b) t) (stepped beam a b)

-- the two bytes of incremental and character modes: an increment, or codes; in idle mode they are passed over
unfoldable pub two_of : Mode → ℕ → ℕ → Beam → Motion
two_of mode.Idle a b beam = Still
two_of mode.Point a b beam = Still
two_of mode.Vector a b beam = Still
two_of mode.IncrementalPoint a b beam = by_increment trace.Point a b beam
two_of mode.IncrementalVector a b beam = by_increment trace.Vector a b beam
two_of mode.Basic a b beam = Codes size.Basic a b
two_of mode.Large a b beam = Codes size.Large a b

-- the four bytes of point and vector mode: an absolute coordinate
unfoldable pub four_of : Mode → ℕ → ℕ → ℕ → ℕ → Motion
four_of mode.Idle a b c d = Still
four_of mode.Point a b c d = To moved.Absolute (trace_by (blanked_place a) trace.Point) (placed a b c d)
four_of mode.Vector a b c d = To moved.Absolute (trace_by (blanked_place a) trace.Vector) (placed a b c d)
four_of mode.IncrementalPoint a b c d = Still
four_of mode.IncrementalVector a b c d = Still
four_of mode.Basic a b c d = Still
four_of mode.Large a b c d = Still

-- orders, faults and checks leave the beam alone
unfoldable pub motion_of : Look → Mode → Beam → Motion
motion_of (look.Fault f) m beam = Still
motion_of (look.Check at) m beam = Still
motion_of (look.Enter n next) m beam = Still
motion_of (look.Pass next) m beam = Still
motion_of (look.Timer next) m beam = Still
motion_of (look.SetPen p next) m beam = Still
motion_of (look.End next) m beam = Still
motion_of (look.Jump target) m beam = Still
motion_of (look.Either target next) m beam = Still
motion_of (look.Two a b next) m beam = two_of m a b beam
motion_of (look.Four a b c d next) m beam = four_of m a b c d

-- whether the screen was left: an absolute coordinate lies on it
abbrev pub off_of : Moved → Bool
off_of moved.Absolute = false
off_of (moved.Increment off) = off

-- the beam after the step
unfoldable pub beam_after : Motion → Beam → Beam
beam_after Still beam = beam
beam_after (To k t to) beam = to
beam_after (Codes s a b) beam = after_code s b (after_code s a beam)

-- the motion of a mode's data: the four bytes of point and vector mode, or two
abbrev pub data_motion : Mode → ℕ → ℕ → ℕ → ℕ → Beam → Motion
data_motion m a b c d beam = cond (placing m) (four_of m a b c d) (two_of m a b beam)
