-- The line of the unit's state: `stopped at A mode M beam X Y pen P switch open armed no status SS sense S0 S1`.
use Rattle.std.specs.Prelude.{ℕ, ◌+◌, Bool, cond, List, ◌++◌}
use Rattle.text_put.specs.Text.{spelled, named}
use Rattle.console_phrases.specs.Phrases.{paired, byte_named}
use Rattle.ground_orders.specs.declared.Mode.{Mode}
use Rattle.ground_orders.specs.declared.Mode.TheVariants as mode
use Rattle.ground_orders.specs.declared.PenMode.{PenMode}
use Rattle.ground_orders.specs.declared.PenMode.TheVariants as pen
use Rattle.unit_pen.specs.declared.Pen.{Pen}
use Rattle.unit_head.specs.declared.Head.{Head}
use Rattle.unit_head.specs.declared.Sense.{Sense}

-- "modes idle point vector ipoint ivector basic large"
abbrev pub mode_text : Mode → List ℕ
mode_text mode.Idle = spelled " mode idle"
mode_text mode.Point = spelled " mode point"
mode_text mode.Vector = spelled " mode vector"
mode_text mode.IncrementalPoint = spelled " mode ipoint"
mode_text mode.IncrementalVector = spelled " mode ivector"
mode_text mode.Basic = spelled " mode basic"
mode_text mode.Large = spelled " mode large"

-- `stopped at A mode M`, or `running`
abbrev pub place_text : Bool → ℕ → Mode → List ℕ
place_text running a m = cond running (spelled "running") (spelled "stopped") ++ named (spelled " at ") a ++ mode_text m

-- "pens normal disabled noswitch"
abbrev pub pen_mode_text : PenMode → List ℕ
pen_mode_text pen.Normal = spelled " pen normal"
pen_mode_text pen.Disabled = spelled " pen disabled"
pen_mode_text pen.NoSwitch = spelled " pen noswitch"

-- ` pen P switch open armed no`, or `closed`, or `yes`
abbrev pub pen_text : Pen → List ℕ
pen_text p =
    pen_mode_text p.mode ++ cond p.closed (spelled " switch closed") (spelled " switch open")
    ++ cond p.armed (spelled " armed yes") (spelled " armed no")

-- "S0 and S1 the latched bits, without Buffer Running and Character Mode"
abbrev pub latched_zero : Sense → ℕ
latched_zero s = cond s.reject 0x80 0 + cond s.check 0x08 0

abbrev pub latched_one : Sense → ℕ
latched_one s = cond s.detect 0x80 0 + cond s.ended 0x40 0

-- ` status SS sense S0 S1`
abbrev pub signal_text : ℕ → Sense → List ℕ
signal_text status s =
    byte_named (spelled " status ") status ++ byte_named (spelled " sense ") (latched_zero s) ++ byte_named (spelled " ") (latched_one s)
    ++ spelled "\n"

abbrev pub state_line : Head → List ℕ
state_line h =
    place_text h.state.running h.state.address h.state.mode ++ paired (spelled " beam ") h.state.beam.x h.state.beam.y
    ++ pen_text h.state.pen ++ signal_text h.status h.sense
