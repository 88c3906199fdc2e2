-- The light pen (01, "The pen"; 000 p.28 and p.29).
use Rattle.std.specs.Prelude.{ℕ, Bool, true, false, cond, not, ◌&&◌, ◌||◌}
use Rattle.std.specs.Bool.{beq}
use Rattle.ground_orders.specs.declared.PenMode.{PenMode}
use Rattle.ground_orders.specs.declared.PenMode.TheVariants.{Normal, Disabled, NoSwitch}
use Rattle.unit_pen.specs.declared.Pen.{Pen}

-- the mode; whether the switch is closed; whether this closure is spent; whether the pen is armed; whether no-switch mode has had a detect
abbrev pub pen_of : PenMode → Bool → Bool → Bool → Bool → Pen
pen_of mode closed spent armed seen = record { mode = mode; closed = closed; spent = spent; armed = armed; seen = seen }

-- "A fresh device .. pen mode normal, switch open"
abbrev pub fresh : Pen
fresh = pen_of Normal false false false false

-- "The orders set them as 000 says": each order sets its mode and leaves the switch and the arming alone. Enable No Switch
-- Detect Operation also resets "a light-pen detect occurrence condition" (000 p.29)
unfoldable pub ordered : Pen → PenMode → Pen
ordered p Normal = pen_of Normal p.closed p.spent p.armed p.seen
ordered p Disabled = pen_of Disabled p.closed p.spent p.armed p.seen
ordered p NoSwitch = pen_of NoSwitch p.closed p.spent p.armed false

-- "if the switch is closed and this closure has had neither a detect nor a no-detect transfer in normal mode, arms it"
abbrev pub armed_by : Pen → Bool
armed_by p = p.armed || (p.closed && not p.spent)

-- "Start Regeneration Timer sets normal and .. arms it"; it resets the detect occurrence condition too (000 p.29)
unfoldable pub timed : Pen → Pen
timed p = pen_of Normal p.closed p.spent (armed_by p) false

-- a closure that begins has had nothing yet and waits for the timer; "arming lasts .. until the switch opens (house)"
abbrev pub turned : Pen → Bool → Pen
turned p closed = pen_of p.mode closed false false p.seen

-- "Opening or closing the switch is a call; a repeat changes nothing."
unfoldable pub switched : Pen → Bool → Pen
switched p closed = cond (beq p.closed closed) p (turned p closed)

-- "A detect needs armed normal mode, or no-switch mode."
abbrev pub detects_in : Pen → PenMode → Bool
detects_in p Normal = p.armed
detects_in p Disabled = false
detects_in p NoSwitch = true

unfoldable pub detects : Pen → Bool
detects p = detects_in p p.mode

-- "A detect needs armed normal mode, or no-switch mode": else nothing is seen
unfoldable pub seen_of : Pen → ℕ → ℕ
seen_of p sight = cond (detects p) sight 0

-- "Only one normal light pen detect can occur for each switch closure" (000 p.28); a no-detect transfer takes its place (p.29)
unfoldable pub spent_pen : Pen → Pen
spent_pen p = pen_of p.mode p.closed true false p.seen

-- "a light-pen detect occurrence condition to be set" (000 p.29)
unfoldable pub seen_pen : Pen → Pen
seen_pen p = pen_of p.mode p.closed p.spent p.armed true

-- detects in no-switch mode and the one in normal mode "are mutually independent" (000 p.29)
abbrev pub detected_in : Pen → PenMode → Pen
detected_in p Normal = spent_pen p
detected_in p Disabled = p
detected_in p NoSwitch = seen_pen p

unfoldable pub detected : Pen → Pen
detected p = detected_in p p.mode

-- "Transfer On No Detect goes when armed in normal mode with no detect, or in no-switch mode with no detect since that order":
-- a detect in normal mode has disarmed the pen. Disabled, the order is a 4-byte no-op (000 p.24, note 6)
abbrev pub transfers_in : Pen → PenMode → Bool
transfers_in p Normal = p.armed
transfers_in p Disabled = false
transfers_in p NoSwitch = not p.seen

unfoldable pub transfers : Pen → Bool
transfers p = transfers_in p p.mode

-- "additional no-detect transfers or normal detects cannot occur until the conditions for a normal detect are again satisfied";
-- in no-switch mode transfers go "in unlimited quantities" (000 p.29)
abbrev pub transferred_in : Pen → PenMode → Pen
transferred_in p Normal = spent_pen p
transferred_in p Disabled = p
transferred_in p NoSwitch = p

unfoldable pub transferred : Pen → Pen
transferred p = transferred_in p p.mode
