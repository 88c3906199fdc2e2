-- The commands of the channel (01, "Status, sense and commands"; 000 p.16 to 22, Tables 1 to 3): what each answers, does to the unit and
-- leaves in the room lent.
use Rattle.std.specs.Prelude.{ℕ, ◌+◌, ◌/◌, ◌%◌, Bool, true, false, cond, not, ◌||◌, List, eqb, Err, Ok, Result}
use Rattle.ground_refusals.specs.Refusals.{refusal_number}
use Rattle.ground_refusals.specs.declared.Refusal.{Refusal}
use Rattle.ground_setup.specs.Setup.{wrap_of}
use Rattle.ground_orders.specs.declared.Mode.TheVariants.{Idle}
use Rattle.unit_beam.specs.Beam.{high_byte, low_byte}
use Rattle.unit_cursor.specs.Cursor.{Buffer, any_set, set_here, cleared_here}
use Rattle.unit_buffer.specs.Buffer.{Wrote, bytes_written, read_of, room_read}
use Rattle.unit_buffer.specs.declared.Read.{Read}
use Rattle.unit_head.specs.declared.State.{State}
use Rattle.unit_head.specs.declared.Sense.{Sense}
use Rattle.unit_head.specs.declared.Head.{Head}
use Rattle.unit_head.specs.Head.{DisplayUnit, unit, size_in, buffer_of, no_sense, with_address, with_state, with_sense, with_cursor}
use Rattle.unit_sense.specs.Sense.{sensing, sense_given, four_in, four_count, sense_in}
use Rattle.unit_codes.specs.Codes.{row_of, address_in, sent_by}
use Rattle.unit_codes.specs.declared.Command.{Command}
use Rattle.unit_codes.specs.declared.Command.TheVariants as command
use Rattle.unit_codes.specs.declared.CommandRow.{CommandRow}
use Rattle.unit_commands.specs.declared.Reply.{Reply}

-- a command's answer in 01's numbers: its status and how many bytes it gave, or the number of its refusal
pub data CommandValues : Type 0 where
  ended : ℕ → ℕ → CommandValues
  refused : ℕ → CommandValues

abbrev pub command_values : Result Reply Refusal → CommandValues
command_values (Ok r) = CommandValues.ended r.status r.count
command_values (Err r) = CommandValues.refused (refusal_number r)

-- what a command leaves: the unit, the answer, and the room lent
pub record CommandEnd : Type 0 where
  pub unit : DisplayUnit
  pub answer : CommandValues
  pub room : List ℕ

-- the same of a call that leaves the words, the head and the room, and answers
abbrev pub command_ended : List ℕ → Head → Result Reply Refusal → List ℕ → CommandEnd
command_ended words head r room = record { unit = unit words head; answer = command_values r; room = room }

-- a command that ends with a status, so many bytes given
abbrev pub ends : DisplayUnit → ℕ → ℕ → List ℕ → CommandEnd
ends u status count room = record { unit = u; answer = CommandValues.ended status count; room = room }

-- "Channel End 08, Device End 04": a command that is done
abbrev pub done : ℕ
done = 0x0C

-- with "Unit Check 02": a read that met bad parity
abbrev pub checked : ℕ
checked = 0x0E

-- a unit with other sense bits, another state, another buffer
abbrev pub in_sense : DisplayUnit → Sense → DisplayUnit
in_sense u s = unit u.words (with_sense u.head s)

abbrev pub in_state : DisplayUnit → State → DisplayUnit
in_state u s = unit u.words (with_state u.head s)

abbrev pub in_buffer : DisplayUnit → Buffer → DisplayUnit
in_buffer u b = unit b.words (with_cursor u.head b.cursor)

-- "1. Status waiting: the answer is that status, with Busy for all but Test I/O."
abbrev pub busy : ℕ → ℕ
busy status = cond (eqb (status / 0x10 % 2) 1) status (status + 0x10)

abbrev pub waiting_status : Command → ℕ → ℕ
waiting_status command.TestIo status = status
waiting_status k status = busy status

-- "The command does nothing else; the status is then no longer waiting."
abbrev pub without_status : Head → Head
without_status h = record { state = h.state; status = 0; sense = h.sense; cursor = h.cursor }

abbrev pub waiting_of : DisplayUnit → Command → List ℕ → CommandEnd
waiting_of u k room = ends (unit u.words (without_status u.head)) (waiting_status k u.head.status) 0 room

-- "2. .. Unit Check alone, sense Command Reject."
abbrev pub rejected_of : DisplayUnit → List ℕ → CommandEnd
rejected_of u room = ends (in_sense u (sensing true false false false)) 0x02 0 room

-- "Sense data, but for Buffer Running and Character Mode, are reset by the next command other than Sense, Test I/O and No Operation"
abbrev pub reset : DisplayUnit → DisplayUnit
reset u = in_sense u no_sense

-- the same by the command that comes
abbrev pub reset_before : Command → Head → Head
reset_before command.TestIo h = h
reset_before command.NoOperation h = h
reset_before command.Sense h = h
reset_before k h = with_sense h no_sense

-- Sense (000 p.21 and 22, Table 3)
abbrev pub sensed : DisplayUnit → List ℕ → CommandEnd
sensed u room = ends (in_sense u (sense_given u.head.sense)) done (four_count room) (sense_in room u.head.state u.head.sense)

-- Write Buffer (000 p.18): the buffer and the address that the write leaves
abbrev pub wrote_in : DisplayUnit → Wrote → DisplayUnit
wrote_in u w = in_buffer (in_state u (with_address u.head.state w.address)) w.buffer

abbrev pub written_by : DisplayUnit → List ℕ → List ℕ → CommandEnd
written_by u bytes room = ends (wrote_in u (bytes_written (size_in u) u.head.state.address bytes (buffer_of u))) done 0 room

-- a read that ended: "ends with 0E and Data Check" where parity was bad
abbrev pub read_ended : DisplayUnit → Read → List ℕ → CommandEnd
read_ended u r room =
    ends (in_sense (in_state u (with_address u.head.state r.address)) (sensing false (not r.good) false false)) (cond r.good done checked)
    r.count room

-- Read Buffer (000 p.19); Read Cursor (p.20) seeks the cursor where there is any (02, C-15)
abbrev pub read_by : DisplayUnit → Bool → List ℕ → CommandEnd
read_by u seek room =
    read_ended u (read_of (buffer_of u) (size_in u) seek u.head.state.address room)
    (room_read (buffer_of u) (size_in u) seek u.head.state.address room)

-- Read XY (000 p.20)
abbrev pub place_read : DisplayUnit → List ℕ → CommandEnd
place_read u room =
    ends u done (four_count room)
    (four_in room (high_byte u.head.state.beam.x) (low_byte u.head.state.beam.x) (high_byte u.head.state.beam.y)
    (low_byte u.head.state.beam.y))

-- the location that a state's address is
abbrev pub location_of : State → ℕ
location_of s = wrap_of s.setup.size s.address

-- Insert Cursor and Remove Cursor (000 p.21): "cursor commands don't" set "written"
abbrev pub inserted_by : DisplayUnit → List ℕ → CommandEnd
inserted_by u room = ends (in_buffer u (set_here (location_of u.head.state) (buffer_of u))) done 0 room

abbrev pub removed_by : DisplayUnit → List ℕ → CommandEnd
removed_by u room = ends (in_buffer u (cleared_here (location_of u.head.state) (buffer_of u))) done 0 room

-- "Set Buffer Address and Start begins in idle mode, Stop keeps the mode (house)."
abbrev pub started_at : State → ℕ → State
started_at s a = record { setup = s.setup; address = a; mode = Idle; running = true; beam = s.beam; pen = s.pen }

abbrev pub stopped_at : State → ℕ → State
stopped_at s a = record { setup = s.setup; address = a; mode = s.mode; running = false; beam = s.beam; pen = s.pen }

abbrev pub started_by : DisplayUnit → ℕ → List ℕ → CommandEnd
started_by u a room = ends (in_state u (started_at u.head.state a)) done 0 room

abbrev pub stopped_by : DisplayUnit → ℕ → List ℕ → CommandEnd
stopped_by u a room = ends (in_state u (stopped_at u.head.state a)) done 0 room

-- "3. Otherwise it is done, and ends with 0C after data. Alarm, No Operation, Insert and Remove Cursor answer 0C at once. Test I/O with
-- nothing waiting answers 00."
abbrev pub done_of : DisplayUnit → Command → List ℕ → List ℕ → CommandEnd
done_of u command.TestIo bytes room = ends u 0x00 0 room
done_of u command.WriteBuffer bytes room = written_by (reset u) bytes room
done_of u command.ReadBuffer bytes room = read_by (reset u) false room
done_of u command.NoOperation bytes room = ends u done 0 room
done_of u command.Sense bytes room = sensed u room
done_of u command.ReadCursor bytes room = read_by (reset u) (any_set u.head.cursor) room
done_of u command.SetAndStop bytes room = stopped_by (reset u) (address_in bytes) room
done_of u command.Alarm bytes room = ends (reset u) done 0 room
done_of u command.InsertCursor bytes room = inserted_by (reset u) room
done_of u command.ReadXy bytes room = place_read (reset u) room
done_of u command.RemoveCursor bytes room = removed_by (reset u) room
done_of u command.SetAndStart bytes room = started_by (reset u) (address_in bytes) room
done_of u command.Invalid bytes room = rejected_of u room

-- a command is done on a stopped unit, and on a running one if Appendix A lets it
abbrev pub allowed : Bool → Bool → Bool
allowed whileRunning running = not running || whileRunning

-- "A command is tried in this order": waiting status, then whether it is rejected, else it is done
unfoldable pub tried_command : DisplayUnit → CommandRow → List ℕ → List ℕ → CommandEnd
tried_command u row bytes room =
    cond (eqb u.head.status 0)
    (cond (allowed row.running u.head.state.running) (done_of u row.command bytes room) (rejected_of u room))
    (waiting_of u row.command room)

-- "A refusal returns its number only and alters nothing."
abbrev pub command_by : DisplayUnit → CommandRow → List ℕ → List ℕ → Result (Unit {0}) Refusal → CommandEnd
command_by u row bytes room (Err r) = record { unit = u; answer = CommandValues.refused (refusal_number r); room = room }
command_by u row bytes room (Ok tt) = tried_command u row bytes room

-- a command of a unit: its code, the bytes sent with it, and the room lent. "10, 3, 4 .. before any waiting status"
unfoldable pub unit_command : DisplayUnit → ℕ → List ℕ → List ℕ → CommandEnd
unit_command u code bytes room = command_by u (row_of code) bytes room (sent_by (size_in u) (row_of code).takes bytes)
