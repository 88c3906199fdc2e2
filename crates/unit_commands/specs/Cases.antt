-- Worked cases of commands, as one table over the definitions: 01, "Status, sense and commands", sentence by sentence.
use Rattle.std.specs.Prelude.{ℕ, ◌≡◌, refl, Bool, true, false, List, [], ◌∷◌, map}
use Rattle.std.specs.Int.Count.{ones, ones_in}
use Rattle.ground_location.specs.Location.{word_of}
use Rattle.ground_setup.specs.Setup.{setup}
use Rattle.ground_setup.specs.declared.Size.TheVariants.{K4}
use Rattle.ground_orders.specs.declared.Mode.{Mode}
use Rattle.ground_orders.specs.declared.Mode.TheVariants.{Idle, Basic}
use Rattle.unit_beam.specs.Beam.{beam_at}
use Rattle.unit_pen.specs.Pen.{fresh}
use Rattle.unit_cursor.specs.Cursor.{cursors, recounted, set_here, bare_at, cleared_here}
use Rattle.unit_buffer.specs.Buffer.{written_from, given_from, read_from}
use Rattle.unit_head.specs.declared.Sense.{Sense}
use Rattle.unit_head.specs.Head.{DisplayUnit, unit, no_sense}
use Rattle.unit_sense.specs.Sense.{sensing, sense_given}
use Rattle.unit_codes.specs.Codes.{row_of}
use Rattle.unit_commands.specs.Commands.{CommandValues, CommandEnd, ends, tried_command, unit_command}

-- a unit before a command, the code, the bytes sent, the room lent, and what is left
pub record CommandCase : Type 0 where
  pub before : DisplayUnit
  pub code : ℕ
  pub bytes : List ℕ
  pub room : List ℕ
  pub after : CommandEnd

abbrev command_case : DisplayUnit → ℕ → List ℕ → List ℕ → CommandEnd → CommandCase
command_case before code bytes room after = record { before = before; code = code; bytes = bytes; room = room; after = after }

-- a unit of 4,096 with the beam at 258, 513: its first words, how many cursors they have, the address, the mode, whether it runs, the status
-- and the sense bits
abbrev stands : List ℕ → ℕ → ℕ → Mode → Bool → ℕ → Sense → DisplayUnit
stands words count a m running status bits =
    unit words
    (record {
      state = record { setup = setup K4; address = a; mode = m; running = running; beam = beam_at 258 513; pen = fresh };
      status = status;
      sense = bits;
      cursor = cursors count;
    })

-- the bytes 01 to 04, written; and the same with the cursor at 2, with bad parity at 2
abbrev four : List ℕ
four = 0x0401 ∷ 0x0402 ∷ 0x0603 ∷ 0x0404 ∷ []

abbrev marked : List ℕ
marked = 0x0401 ∷ 0x0402 ∷ 0x0503 ∷ 0x0404 ∷ []

abbrev spoiled : List ℕ
spoiled = 0x0401 ∷ 0x0402 ∷ 0x0403 ∷ 0x0404 ∷ []

-- a unit at address 1 in basic characters, stopped or running, with this status and these sense bits
abbrev still : ℕ → Sense → DisplayUnit
still status bits = stands four 0 1 Basic false status bits

abbrev runs : ℕ → Sense → DisplayUnit
runs status bits = stands four 0 1 Basic true status bits

-- every sense bit that can stand
abbrev every : Sense
every = sensing true true true true

abbrev rejects : Sense
rejects = sensing true false false false

abbrev refuses : DisplayUnit → ℕ → List ℕ → CommandEnd
refuses u n room = record { unit = u; answer = CommandValues.refused n; room = room }

abbrev pub command_cases : List CommandCase
command_cases =
    -- "Status waiting: the answer is that status, with Busy for all but Test I/O. The command does nothing else; the status is then no longer
    -- waiting."
    command_case (still 0x82 every) 0x00 [] (9 ∷ []) (ends (still 0 every) 0x82 0 (9 ∷ []))
    ∷ command_case (still 0x82 every) 0x03 [] [] (ends (still 0 every) 0x92 0 [])
    ∷ command_case (still 0x82 every) 0x04 [] (9 ∷ []) (ends (still 0 every) 0x92 0 (9 ∷ []))
    -- it comes before a reject, and "resets nothing"
    ∷ command_case (runs 0x82 every) 0x02 [] [] (ends (runs 0 every) 0x92 0 [])
    ∷ command_case (still 0x82 every) 0x0E [] [] (ends (still 0 every) 0x92 0 [])
    ∷ command_case (still 0x82 every) 0x0B [] [] (ends (still 0 every) 0x92 0 [])
    -- refusals "before any waiting status"
    ∷ command_case (still 0x82 every) 0x27 (0x00 ∷ 0x01 ∷ []) [] (refuses (still 0x82 every) 3 [])
    ∷ command_case (runs 0 every) 0x02 (0x00 ∷ []) (9 ∷ []) (refuses (runs 0 every) 10 (9 ∷ []))
    -- "Invalid code or sequence, or a left-out feature's command: Unit Check alone, sense Command Reject."
    ∷ command_case (still 0 every) 0x0E (0x00 ∷ []) [] (ends (still 0 rejects) 0x02 0 [])
    ∷ command_case (runs 0 every) 0x01 (0x00 ∷ []) [] (ends (runs 0 rejects) 0x02 0 [])
    ∷ command_case (runs 0 every) 0x06 [] (9 ∷ []) (ends (runs 0 rejects) 0x02 0 (9 ∷ []))
    -- "Test I/O with nothing waiting answers 00"; sense data stand through it and No Operation
    ∷ command_case (still 0 every) 0x00 [] [] (ends (still 0 every) 0x00 0 [])
    ∷ command_case (still 0 every) 0x03 [] [] (ends (still 0 every) 0x0C 0 [])
    -- the sense bytes, all bits and each alone; the bytes that fit, "bytes not given stay"
    ∷ command_case (still 0 every) 0x04 [] (9 ∷ 9 ∷ 9 ∷ 9 ∷ 9 ∷ []) (ends (still 0 (sense_given every)) 0x0C 4 (0x88 ∷ 0xE0 ∷ 0x00 ∷ 0x01 ∷ 9 ∷ []))
    ∷ command_case (still 0 rejects) 0x04 [] (9 ∷ 9 ∷ []) (ends (still 0 (sense_given rejects)) 0x0C 2 (0x80 ∷ 0x20 ∷ []))
    ∷ command_case (still 0 (sensing false true false false)) 0x04 [] (9 ∷ []) (ends (still 0 (sense_given (sensing false true false false))) 0x0C 1 (0x08 ∷ []))
    ∷ command_case (still 0 (sensing false false true false)) 0x04 [] (9 ∷ 9 ∷ []) (ends (still 0 (sense_given (sensing false false true false))) 0x0C 2 (0x00 ∷ 0xA0 ∷ []))
    ∷ command_case (still 0 (sensing false false false true)) 0x04 [] (9 ∷ 9 ∷ []) (ends (still 0 (sense_given (sensing false false false true))) 0x0C 2 (0x00 ∷ 0x60 ∷ []))
    -- "While running, Character Mode and the last two bytes are zero."
    ∷ command_case (runs 0 every) 0x04 [] (9 ∷ 9 ∷ 9 ∷ 9 ∷ []) (ends (runs 0 (sense_given every)) 0x0C 4 (0x8A ∷ 0xC0 ∷ 0x00 ∷ 0x00 ∷ []))
    -- "reset by the next command other than Sense, Test I/O and No Operation"
    ∷ command_case (runs 0 every) 0x0B [] [] (ends (runs 0 no_sense) 0x0C 0 [])
    ∷ command_case (still 0 every) 0x12 [] (9 ∷ 9 ∷ 9 ∷ 9 ∷ []) (ends (still 0 no_sense) 0x0C 4 (0x04 ∷ 0x08 ∷ 0x08 ∷ 0x04 ∷ []))
    -- "Set Buffer Address and Start begins in idle mode, Stop keeps the mode"
    ∷ command_case (still 0 every) 0x27 (0x00 ∷ 0x02 ∷ []) [] (ends (stands four 0 2 Idle true 0 no_sense) 0x0C 0 [])
    ∷ command_case (runs 0 every) 0x07 (0x00 ∷ 0x03 ∷ []) [] (ends (stands four 0 3 Basic false 0 no_sense) 0x0C 0 [])
    -- writes and reads step "through locations from the address register"
    ∷ command_case (still 0 every) 0x01 (0xC1 ∷ 0xC2 ∷ []) [] (ends (stands (0x0401 ∷ 0x04C1 ∷ 0x04C2 ∷ 0x0404 ∷ []) 0 3 Basic false 0 no_sense) 0x0C 0 [])
    ∷ command_case (still 0 every) 0x02 [] (9 ∷ 9 ∷ []) (ends (stands four 0 3 Basic false 0 no_sense) 0x0C 2 (0x02 ∷ 0x03 ∷ []))
    -- "A read that meets bad parity gives that byte, steps past it and ends with 0E and Data Check"
    ∷ command_case (stands spoiled 0 1 Basic false 0 every) 0x02 [] (9 ∷ 9 ∷ 9 ∷ [])
    (ends (stands spoiled 0 3 Basic false 0 (sensing false true false false)) 0x0E 2 (0x02 ∷ 0x03 ∷ 9 ∷ []))
    -- Read Cursor gives 1A for the cursor and stays there; Read Buffer passes it (000 p.19 and 20)
    ∷ command_case (stands marked 1 1 Basic false 0 every) 0x06 [] (9 ∷ 9 ∷ 9 ∷ []) (ends (stands marked 1 2 Basic false 0 no_sense) 0x0C 2 (0x02 ∷ 0x1A ∷ 9 ∷ []))
    ∷ command_case (stands marked 1 1 Basic false 0 every) 0x02 [] (9 ∷ 9 ∷ 9 ∷ []) (ends (stands marked 1 4 Basic false 0 no_sense) 0x0C 3 (0x02 ∷ 0x03 ∷ 0x04 ∷ []))
    -- Insert and Remove Cursor (000 p.21)
    ∷ command_case (stands four 0 2 Basic false 0 every) 0x0F [] [] (ends (stands marked 1 2 Basic false 0 no_sense) 0x0C 0 [])
    ∷ command_case (stands marked 1 2 Basic false 0 every) 0x1F [] [] (ends (stands four 0 2 Basic false 0 no_sense) 0x0C 0 [])
    ∷ []

-- each case of the table holds
pub command_cases_lem : map (λ (c : CommandCase). unit_command c.before c.code c.bytes c.room) command_cases ≡ map (λ (c : CommandCase). c.after) command_cases
unfolding unit_command tried_command row_of written_from given_from read_from recounted set_here bare_at cleared_here word_of ones ones_in
command_cases_lem = refl
