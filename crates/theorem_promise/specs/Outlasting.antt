-- Which events the promise outlasts: listing, the switch and Halt I/O; a refused load; a key that stores nothing, 02, C-13: it "ends at the first key
-- that stores"; and every command that is refused, rejected or answered by waiting status, or is none of Write Buffer and the two Set Buffer
-- Address.
use Rattle.std.specs.Prelude.{ℕ, ◌≡◌, ◌≢◌, Bool, false, List}
use Rattle.unit_head.specs.Head.{DisplayUnit}
use Rattle.unit_loading.specs.Loading.{LoadValues, unit_load}
use Rattle.unit_commands.specs.Commands.{CommandValues, unit_command}
use Rattle.typing_keys.specs.Keys.{unit_key}
use Rattle.theorem_typing.specs.Typing.{stored_by}
use Rattle.theorem_promise.specs.Promise.{Event, Outlasts}

abbrev pub ListOutlasted : Type 0
ListOutlasted = (u : DisplayUnit) (sight held : ℕ) (out : List ℕ) → Outlasts u (Event.listed sight held out)

abbrev pub SwitchOutlasted : Type 0
SwitchOutlasted = (u : DisplayUnit) (closed : Bool) → Outlasts u (Event.switched closed)

abbrev pub HaltOutlasted : Type 0
HaltOutlasted = (u : DisplayUnit) → Outlasts u Event.halted

abbrev pub LoadOutlasted : Type 0
LoadOutlasted = (u : DisplayUnit) (size n : ℕ) (dump : List ℕ) → (unit_load u size dump).answer ≡ LoadValues.refused n → Outlasts u (Event.loaded size dump)

abbrev pub KeyOutlasted : Type 0
KeyOutlasted = (u : DisplayUnit) (number : ℕ) → stored_by (unit_key u number).answer ≡ false → Outlasts u (Event.keyed number)

-- a command that is neither Write Buffer nor sets the address: Test I/O, No Operation, Sense, the reads, the cursor commands, Alarm, and every
-- invalid code
pub record Mild (code : ℕ) : Type 0 where
  pub no_write : code ≢ 0x01
  pub no_stop : code ≢ 0x07
  pub no_start : code ≢ 0x27

abbrev pub MildOutlasted : Type 0
MildOutlasted = (u : DisplayUnit) (code : ℕ) (bytes room : List ℕ) → Mild code → Outlasts u (Event.commanded code bytes room)

-- a command of any code that is refused
abbrev pub RefusedOutlasted : Type 0
RefusedOutlasted =
    (u : DisplayUnit) (code n : ℕ) (bytes room : List ℕ)
    → (unit_command u code bytes room).answer ≡ CommandValues.refused n
    → Outlasts u (Event.commanded code bytes room)

-- or rejected, by Unit Check alone
abbrev pub RejectedOutlasted : Type 0
RejectedOutlasted =
    (u : DisplayUnit) (code : ℕ) (bytes room : List ℕ)
    → (unit_command u code bytes room).answer ≡ CommandValues.ended 0x02 0
    → Outlasts u (Event.commanded code bytes room)

-- or answered by waiting status
abbrev pub WaitingOutlasted : Type 0
WaitingOutlasted = (u : DisplayUnit) (code : ℕ) (bytes room : List ℕ) → u.head.status ≢ 0 → Outlasts u (Event.commanded code bytes room)

-- Set Buffer Address and Stop, done or not: a unit that stands meets no fault
abbrev pub StopOutlasted : Type 0
StopOutlasted = (u : DisplayUnit) (bytes room : List ℕ) → Outlasts u (Event.commanded 0x07 bytes room)
