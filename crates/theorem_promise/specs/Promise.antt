-- Demand 3's promise to a device: "A device of the same size, loaded with a passed image and started there, never stops for a fault,
-- whatever the pen sees, until it is stopped, started anew or its buffer is altered."
use Rattle.std.specs.Prelude.{ℕ, ◌≤◌, ◌<◌, ◌≡◌, ◌≢◌, Bool, true, List, [], ◌∷◌, length, get_or}
use Rattle.ground_location.specs.Location.{Unaltered}
use Rattle.ground_setup.specs.Setup.{size_of}
use Rattle.ground_setup.specs.declared.Size.{Size}
use Rattle.ground_look.specs.Loaded.{Carries}
use Rattle.unit_head.specs.declared.State.{State}
use Rattle.unit_head.specs.Head.{DisplayUnit, size_in, fresh_unit, switched_unit}
use Rattle.unit_loading.specs.Loading.{unit_load}
use Rattle.unit_commands.specs.Commands.{unit_command}
use Rattle.unit_advance.specs.Advance.{AdvanceValues, unit_advance}
use Rattle.typing_keys.specs.Keys.{unit_key}
use Rattle.validator_verdict.specs.Verdict.{VerdictValues, tried_of, Judged}
use Rattle.theorem_roundtrips.specs.RoundTrips.{Bytes, Quiet, address_bytes, written}
use Rattle.theorem_roundtrips.specs.Images.{dump_of}

-- "a passed image": the validator's own answer to it is passed, with some store and some count
pub record Passed (image : List ℕ) (size start : ℕ) : Type 0 where
  pub store : List ℕ
  pub left : List ℕ
  pub count : ℕ
  pub judged : Judged (tried_of size (length image) start (length store)) image start store left (VerdictValues.passed count)

-- "A device of the same size, loaded with": its words carry the image, whatever stands behind it, and no status waits
pub record LoadedWith (image : List ℕ) (size : ℕ) (u : DisplayUnit) : Type 0 where
  pub same : size_of (size_in u) ≡ size
  pub carries : Carries u.words image
  pub clear : u.head.status ≡ 0

-- "started there": by Set Buffer Address and Start, with any room lent
abbrev pub started_there : DisplayUnit → ℕ → List ℕ → DisplayUnit
started_there u start room = (unit_command u 0x27 (address_bytes start) room).unit

-- what may happen to a unit: advancing with any sights, listing of any sight into any list, the switch closed or opened, Halt I/O, a command
-- of any code with any bytes and any room, a key of any number, and a load of any dump under any size
pub data Event : Type 0 where
  advanced : List ℕ → Event
  listed : ℕ → ℕ → List ℕ → Event
  switched : Bool → Event
  halted : Event
  commanded : ℕ → List ℕ → List ℕ → Event
  keyed : ℕ → Event
  loaded : ℕ → List ℕ → Event

-- the unit after it
abbrev pub after_event : DisplayUnit → Event → DisplayUnit
after_event u (Event.advanced sights) = (unit_advance u sights).unit
after_event u (Event.listed sight held out) = u
after_event u (Event.switched closed) = switched_unit u closed
after_event u Event.halted = u
after_event u (Event.commanded code bytes room) = (unit_command u code bytes room).unit
after_event u (Event.keyed number) = (unit_key u number).unit
after_event u (Event.loaded size dump) = (unit_load u size dump).unit

-- "started anew" is a unit that runs and did not run before, or runs elsewhere. This one is not: if it runs, it ran, at the same place
pub record NotStarted (s s' : State) : Type 0 where
  pub ran : s'.running ≡ true → s.running ≡ true
  pub setup : s'.running ≡ true → s'.setup ≡ s.setup
  pub address : s'.running ≡ true → s'.address ≡ s.address
  pub mode : s'.running ≡ true → s'.mode ≡ s.mode

-- "its buffer is altered" where the data or the "written" of a location change, or parity is made bad. This one's is not, though cursors
-- may have moved
abbrev pub BufferKept : DisplayUnit → DisplayUnit → Type 0
BufferKept u u' = (k : ℕ) → k < size_of (size_in u) → Unaltered (get_or u.words k 0) (get_or u'.words k 0)

-- THE PROMISE OUTLASTS an event that neither starts the unit anew nor alters its buffer. A stop need not be told: a unit that stands meets no
-- fault until it is started anew. Advancing does neither, whatever it comes to
pub record GoesOn (u u' : DisplayUnit) : Type 0 where
  pub not_started : NotStarted u.head.state u'.head.state
  pub kept : BufferKept u u'

abbrev pub Outlasts : DisplayUnit → Event → Type 0
Outlasts u (Event.advanced sights) = Unit {0}
Outlasts u (Event.listed sight held out) = GoesOn u u
Outlasts u (Event.switched closed) = GoesOn u (switched_unit u closed)
Outlasts u Event.halted = GoesOn u u
Outlasts u (Event.commanded code bytes room) = GoesOn u (unit_command u code bytes room).unit
Outlasts u (Event.keyed number) = GoesOn u (unit_key u number).unit
Outlasts u (Event.loaded size dump) = GoesOn u (unit_load u size dump).unit

-- an end that is no fault, 1 to 5, and no data check, 8
pub record SoundEnd (n : ℕ) : Type 0 where
  pub no_fault : 1 ≤ n → n ≤ 5 → ⊥
  pub no_check : n ≢ 8

abbrev pub SoundAnswer : AdvanceValues → Type 0
SoundAnswer (AdvanceValues.advanced steps e) = SoundEnd e
SoundAnswer (AdvanceValues.refused n) = Unit {0}

-- an event is no stop for a fault: only advancing can be one
abbrev pub Undisturbed : DisplayUnit → Event → Type 0
Undisturbed u (Event.advanced sights) = SoundAnswer (unit_advance u sights).answer
Undisturbed u (Event.listed sight held out) = Unit {0}
Undisturbed u (Event.switched closed) = Unit {0}
Undisturbed u Event.halted = Unit {0}
Undisturbed u (Event.commanded code bytes room) = Unit {0}
Undisturbed u (Event.keyed number) = Unit {0}
Undisturbed u (Event.loaded size dump) = Unit {0}

-- none of the events, one after the other, is such a stop, up to the first that the promise does not outlast
abbrev pub Never : DisplayUnit → List Event → Type 0
Never u [] = Unit {0}
Never u (e ∷ es) = Undisturbed u e × (Outlasts u e → Never (after_event u e) es)

-- THE PROMISE
abbrev pub Promise : Type 0
Promise =
    (image : List ℕ) (size start : ℕ)
    → Passed image size start
    → (u : DisplayUnit)
    → LoadedWith image size u
    → (room : List ℕ) (es : List Event)
    → Never (started_there u start room) es

-- to a unit that is loaded with the image's dump, whatever it was
abbrev pub PromiseDump : Type 0
PromiseDump =
    (image : List ℕ) (s : Size) (start : ℕ)
    → Bytes image
    → Passed image (size_of s) start
    → (u : DisplayUnit)
    → size_of s ≤ length u.words
    → (room : List ℕ) (es : List Event)
    → Never (started_there (unit_load u (size_of s) (dump_of s image)).unit start room) es

-- to a fresh unit, in an array of n words, that Write Buffer stores the image into
abbrev pub PromiseFresh : Type 0
PromiseFresh =
    (image : List ℕ) (s : Size) (start : ℕ)
    → Bytes image
    → Passed image (size_of s) start
    → (n : ℕ)
    → size_of s ≤ n
    → (lent room : List ℕ) (es : List Event)
    → Never (started_there (unit_command (fresh_unit n s) 0x01 image lent).unit start room) es

-- to a used unit that stands with no status waiting: Write Buffer at address 0 stores the image over what it held
abbrev pub PromiseOver : Type 0
PromiseOver =
    (image : List ℕ) (start : ℕ)
    → Bytes image
    → (u : DisplayUnit)
    → Quiet u
    → Passed image (size_of (size_in u)) start
    → (lent lent' room : List ℕ) (es : List Event)
    → Never (started_there (written u 0 image lent lent') start room) es
