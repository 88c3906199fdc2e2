-- The codes of commands (01, "Status, sense and commands"): which command a code is, what is sent with it, and whether it is done while
-- the buffer runs.
use Rattle.std.specs.Prelude.{ℕ, ◌+◌, ◌*◌, ◌%◌, Bool, true, false, cond, List, eqb, ltb, length, get_or, Err, Ok, Result}
use Rattle.ground_setup.specs.Setup.{size_of}
use Rattle.ground_setup.specs.declared.Size.{Size}
use Rattle.ground_refusals.specs.declared.Refusal.{Refusal}
use Rattle.ground_refusals.specs.declared.Refusal.TheVariants.{OddStart, FarStart, WrongCount}
use Rattle.unit_codes.specs.declared.Command.{Command}
use Rattle.unit_codes.specs.declared.Command.TheVariants.{TestIo, WriteBuffer, ReadBuffer, NoOperation, Sense, ReadCursor, SetAndStop, Alarm, InsertCursor, ReadXy, RemoveCursor, SetAndStart, Invalid}
use Rattle.unit_codes.specs.declared.Takes.{Takes}
use Rattle.unit_codes.specs.declared.Takes.TheVariants.{Nothing, Bytes, Address, Start}
use Rattle.unit_codes.specs.declared.CommandRow.{CommandRow}

abbrev pub command_row : Command → Takes → Bool → CommandRow
command_row c t running = record { command = c; takes = t; running = running }

-- Table 2 (000 p.18), with what Appendix A (p.39) rejects while the buffer runs. Every other code is invalid, that of a left-out feature too:
-- it is rejected whether the buffer runs or not
unfoldable pub row_of : ℕ → CommandRow
row_of c =
    cond (eqb c 0x00) (command_row TestIo Nothing true)
    (cond (eqb c 0x01) (command_row WriteBuffer Bytes false)
    (cond (eqb c 0x02) (command_row ReadBuffer Nothing false)
    (cond (eqb c 0x03) (command_row NoOperation Nothing true)
    (cond (eqb c 0x04) (command_row Sense Nothing true)
    (cond (eqb c 0x06) (command_row ReadCursor Nothing false)
    (cond (eqb c 0x07) (command_row SetAndStop Address true)
    (cond (eqb c 0x0B) (command_row Alarm Nothing true)
    (cond (eqb c 0x0F) (command_row InsertCursor Nothing false)
    (cond (eqb c 0x12) (command_row ReadXy Nothing false)
    (cond (eqb c 0x1F) (command_row RemoveCursor Nothing false)
    (cond (eqb c 0x27) (command_row SetAndStart Start true) (command_row Invalid Bytes true))))))))))))

-- the two address bytes sent, high byte first (000 p.20)
abbrev pub address_in : List ℕ → ℕ
address_in sent = get_or sent 0 0 * 0x100 + get_or sent 1 0

-- "4 .. any set buffer address, is size or more"
abbrev pub near_fit : Size → ℕ → Result (Unit {0}) Refusal
near_fit s a = cond (ltb a (size_of s)) (Ok tt) (Err FarStart)

-- "3 start is odd, also in Set Buffer Address and Start"
abbrev pub start_fit : Size → ℕ → Result (Unit {0}) Refusal
start_fit s a = cond (eqb (a % 2) 1) (Err OddStart) (near_fit s a)

-- "10 .. data sent with a command are not its fixed count"
abbrev pub count_fit : ℕ → List ℕ → Result (Unit {0}) Refusal → Result (Unit {0}) Refusal
count_fit n bytes fit = cond (eqb (length bytes) n) fit (Err WrongCount)

-- "10, 3, 4 for commands whose code isn't rejected"
abbrev pub sent_by : Size → Takes → List ℕ → Result (Unit {0}) Refusal
sent_by s Nothing bytes = count_fit 0 bytes (Ok tt)
sent_by s Bytes bytes = Ok tt
sent_by s Address bytes = count_fit 2 bytes (near_fit s (address_in bytes))
sent_by s Start bytes = count_fit 2 bytes (start_fit s (address_in bytes))
