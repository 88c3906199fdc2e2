-- The devices that any sequence of calls has made: each is well made, and so its number of set cursor bits is true (02, C-15).
use Rattle.std.specs.Prelude.{ℕ, Bool, List, [], ◌∷◌}
use Rattle.ground_setup.specs.declared.Size.{Size}
use Rattle.device_2250.specs.declared.Device.{Device}
use Rattle.unit_loading.specs.Loading.{unit_load}
use Rattle.unit_commands.specs.Commands.{unit_command}
use Rattle.unit_advance.specs.Advance.{unit_advance}
use Rattle.typing_keys.specs.Keys.{unit_key}
use Rattle.device_2250.specs.Device.{unit_of, device_of, fresh_of, switched_of}
use Rattle.theorem_roundtrips.specs.RoundTrips.{Bytes}
use Rattle.theorem_wellmade.specs.WellMade.{WellMade}

-- "the whole array of 8,192 words"
abbrev pub DeviceMade : Device → Type 0
DeviceMade d = WellMade 8192 (unit_of d)

-- a call of a device: refused, rejected and answered by waiting status too
pub data Call : Type 0 where
  load : ℕ → List ℕ → Call
  switch : Bool → Call
  halt : Call
  command : ℕ → List ℕ → List ℕ → Call
  advance : List ℕ → Call
  list : ℕ → ℕ → List ℕ → Call
  key : ℕ → Call

-- the device after it: listing alters none
abbrev pub after_call : Device → Call → Device
after_call d (Call.load size dump) = device_of (unit_load (unit_of d) size dump).unit
after_call d (Call.switch closed) = switched_of d closed
after_call d Call.halt = d
after_call d (Call.command code bytes room) = device_of (unit_command (unit_of d) code bytes room).unit
after_call d (Call.advance sights) = device_of (unit_advance (unit_of d) sights).unit
after_call d (Call.list sight held out) = d
after_call d (Call.key number) = device_of (unit_key (unit_of d) number).unit

-- what is sent with a command are bytes
abbrev pub SentBytes : Call → Type 0
SentBytes (Call.load size dump) = Unit {0}
SentBytes (Call.switch closed) = Unit {0}
SentBytes Call.halt = Unit {0}
SentBytes (Call.command code bytes room) = Bytes bytes
SentBytes (Call.advance sights) = Unit {0}
SentBytes (Call.list sight held out) = Unit {0}
SentBytes (Call.key number) = Unit {0}

-- the device after the calls, one after the other
abbrev pub after_calls : Device → List Call → Device
after_calls d [] = d
after_calls d (c ∷ calls) = after_calls (after_call d c) calls

abbrev pub AllSentBytes : List Call → Type 0
AllSentBytes [] = Unit {0}
AllSentBytes (c ∷ calls) = SentBytes c × AllSentBytes calls

-- each call keeps it
abbrev pub CallKeeps : Type 0
CallKeeps = (d : Device) → DeviceMade d → (c : Call) → SentBytes c → DeviceMade (after_call d c)

-- every device that calls have made of a fresh one is well made
abbrev pub MadeWell : Type 0
MadeWell = (s : Size) (calls : List Call) → AllSentBytes calls → DeviceMade (after_calls (fresh_of s) calls)
