-- A dump loaded into a fresh unit, its switch set, and the unit started by Set Buffer Address and Start.
use Rattle.std.specs.Prelude.{Bool, List, [], ◌∷◌, ℕ, ◌/◌, ◌%◌, Err, Ok, Result}
use Rattle.ground_refusals.specs.Refusals.{refusal_number}
use Rattle.ground_refusals.specs.declared.Refusal.{Refusal}
use Rattle.ground_setup.specs.declared.Size.TheVariants.{K4}
use Rattle.unit_head.specs.Head.{DisplayUnit, fresh_unit, switched_unit}
use Rattle.unit_loading.specs.Loading.{LoadValues, LoadEnd, unit_load}
use Rattle.unit_commands.specs.Commands.{CommandValues, CommandEnd, unit_command}
use Rattle.device_2250.specs.Device.{unit_of}
use Rattle.device_2250.specs.declared.Device.{Device}

-- the answer: the unit is ready to run, or the number of the refusal
pub data StartValues : Type 0 where
  ready : StartValues
  refused : ℕ → StartValues

abbrev pub start_values : Result (Unit {0}) Refusal → StartValues
start_values (Ok tt) = StartValues.ready
start_values (Err r) = StartValues.refused (refusal_number r)

-- what is left: the unit and the answer
pub record StartEnd : Type 0 where
  pub unit : DisplayUnit
  pub answer : StartValues

abbrev pub start_end : DisplayUnit → StartValues → StartEnd
start_end u answer = record { unit = u; answer = answer }

abbrev pub start_leaves : Device → Result (Unit {0}) Refusal → StartEnd
start_leaves d r = start_end (unit_of d) (start_values r)

-- the unit started by the command with its two bytes; a command that ends by status is not refused
abbrev pub starts_at : DisplayUnit → ℕ → CommandEnd
starts_at u start = unit_command u 0x27 (start / 0x100 ∷ start % 0x100 ∷ []) (0 ∷ [])

abbrev pub answer_starts : CommandValues → StartValues
answer_starts (CommandValues.ended status count) = StartValues.ready
answer_starts (CommandValues.refused n) = StartValues.refused n

abbrev pub begun_by : CommandEnd → StartEnd
begun_by e = start_end e.unit (answer_starts e.answer)

-- a dump that is refused is not started
abbrev pub loaded_then : DisplayUnit → ℕ → Bool → LoadValues → StartEnd
loaded_then u start closed LoadValues.loaded = begun_by (starts_at (switched_unit u closed) start)
loaded_then u start closed (LoadValues.refused n) = start_end u (StartValues.refused n)

abbrev pub loaded_before : LoadEnd → ℕ → Bool → StartEnd
loaded_before e start closed = loaded_then e.unit start closed e.answer

unfoldable pub start_of : ℕ → List ℕ → ℕ → Bool → StartEnd
start_of size dump start closed = loaded_before (unit_load (fresh_unit 8192 K4) size dump) start closed
