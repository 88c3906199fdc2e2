-- A unit is its words and its head: what a fresh one is, and what moving the pen's switch makes of it (01, "Locations and the device").
use Rattle.std.specs.Prelude.{ℕ, Bool, false, List, replicate}
use Rattle.ground_location.specs.Location.{fresh_word}
use Rattle.ground_setup.specs.Setup.{setup}
use Rattle.ground_setup.specs.declared.Size.{Size}
use Rattle.ground_orders.specs.declared.Mode.TheVariants.{Idle}
use Rattle.unit_pen.specs.Pen.{fresh, switched}
use Rattle.unit_pen.specs.declared.Pen.{Pen}
use Rattle.unit_cursor.specs.Cursor.{Buffer, buffer, cursors}
use Rattle.unit_cursor.specs.declared.Cursor.{Cursor}
use Rattle.unit_head.specs.declared.State.{State}
use Rattle.unit_head.specs.declared.Sense.{Sense}
use Rattle.unit_head.specs.declared.Head.{Head}

-- a unit: the words of its buffer, and its head
pub record DisplayUnit : Type 0 where
  pub words : List ℕ
  pub head : Head

abbrev pub unit : List ℕ → Head → DisplayUnit
unit words head = record { words = words; head = head }

-- the size of its buffer
abbrev pub size_in : DisplayUnit → Size
size_in u = u.head.state.setup.size

-- its words with their cursor
abbrev pub buffer_of : DisplayUnit → Buffer
buffer_of u = buffer u.words u.head.cursor

-- "stopped at address 0, idle, beam at 0,0, pen mode normal, switch open"
abbrev pub fresh_state : Size → State
fresh_state s = record { setup = setup s; address = 0; mode = Idle; running = false; beam = record { x = 0; y = 0 }; pen = fresh }

-- "no sense": no bit stands, and none was given
abbrev pub no_sense : Sense
no_sense = record { reject = false; check = false; detect = false; ended = false; given = false }

-- "no status, no sense", over words that have this cursor
abbrev pub fresh_head : Size → Cursor → Head
fresh_head s k = record { state = fresh_state s; status = 0; sense = no_sense; cursor = k }

-- "A fresh device has all locations zero but for P = 1": a fresh unit, in an array of n words
abbrev pub fresh_unit : ℕ → Size → DisplayUnit
fresh_unit n s = unit (replicate n fresh_word) (fresh_head s (cursors 0))

-- a state with another pen, at another address
abbrev pub with_pen : State → Pen → State
with_pen s p = record { setup = s.setup; address = s.address; mode = s.mode; running = s.running; beam = s.beam; pen = p }

abbrev pub with_address : State → ℕ → State
with_address s a = record { setup = s.setup; address = a; mode = s.mode; running = s.running; beam = s.beam; pen = s.pen }

-- a head with another state, other sense bits, another cursor
abbrev pub with_state : Head → State → Head
with_state h s = record { state = s; status = h.status; sense = h.sense; cursor = h.cursor }

abbrev pub with_sense : Head → Sense → Head
with_sense h s = record { state = h.state; status = h.status; sense = s; cursor = h.cursor }

abbrev pub with_cursor : Head → Cursor → Head
with_cursor h k = record { state = h.state; status = h.status; sense = h.sense; cursor = k }

-- "Opening or closing the switch is a call; a repeat changes nothing."
unfoldable pub switched_head : Head → Bool → Head
switched_head h closed = with_state h (with_pen h.state (switched h.state.pen closed))

abbrev pub switched_unit : DisplayUnit → Bool → DisplayUnit
switched_unit u closed = unit u.words (switched_head u.head closed)
