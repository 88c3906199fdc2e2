-- The device (01, "Locations and the device"): a unit whose words are an array of 8,192. What each call answers and leaves is what the unit's
-- definition says of its words and its head.
use Rattle.std.specs.Prelude.{Bool, List, ℕ, Option, Result}
use Rattle.ground_refusals.specs.declared.Refusal.{Refusal}
use Rattle.ground_setup.specs.declared.Size.{Size}
use Rattle.unit_cursor.specs.Cursor.{any_set}
use Rattle.unit_head.specs.Head.{DisplayUnit, unit, fresh_unit, switched_unit}
use Rattle.unit_loading.specs.Loading.{LoadEnd, load_ended}
use Rattle.unit_commands.specs.Commands.{CommandEnd, command_ended}
use Rattle.unit_advance.specs.Advance.{AdvanceEnd, advance_ended}
use Rattle.typing_keys.specs.Keys.{KeyEnd, key_ended}
use Rattle.unit_commands.specs.declared.Reply.{Reply}
use Rattle.unit_advance.specs.declared.Advanced.{Advanced}
use Rattle.typing_keys.specs.declared.Heard.{Heard}
use Rattle.device_2250.specs.declared.Device.{Device}

-- a device is a unit, and a unit with as many words a device
abbrev pub unit_of : Device → DisplayUnit
unit_of d = unit d.words d.head

abbrev pub device_of : DisplayUnit → Device
device_of u = record { words = u.words; head = u.head }

-- "A fresh device has all locations zero but for P = 1"
abbrev pub fresh_of : Size → Device
fresh_of s = device_of (fresh_unit 8192 s)

-- "Opening or closing the switch is a call; a repeat changes nothing."
abbrev pub switched_of : Device → Bool → Device
switched_of d closed = device_of (switched_unit (unit_of d) closed)

-- "Is there any cursor at all?" (02, C-15)
abbrev pub any_cursor : Device → Bool
any_cursor d = any_set d.head.cursor

-- what each call leaves, as the unit's definitions have it: the unit of its device, its answer in 01's numbers, and what was lent
abbrev pub load_leaves : Device → Result (Unit {0}) Refusal → LoadEnd
load_leaves d r = load_ended d.words d.head r

abbrev pub command_leaves : Device → Result Reply Refusal → List ℕ → CommandEnd
command_leaves d r room = command_ended d.words d.head r room

abbrev pub advance_leaves : Device → Result Advanced Refusal → AdvanceEnd
advance_leaves d r = advance_ended d.words d.head r

abbrev pub key_leaves : Device → Result (Option Heard) Refusal → KeyEnd
key_leaves d r = key_ended d.words d.head r
