-- Worked cases of requests: each kind once; and a carriage return, which is a byte of its line like any other and which no request has, so
-- that only a line that begins with `#` may have it.
use Rattle.std.specs.Prelude.{◌≡◌, refl, List, [], ◌∷◌, ◌++◌, map, ℕ}
use Rattle.text_parse.specs.Index.{index_of, index_after}
use Rattle.text_put.specs.Text.{spelled}
use Rattle.text_digits.specs.Digits.{all_below, hex_byte_at, digit_at}
use Rattle.text_parse.specs.Parse.{number_from}
use Rattle.console_script.specs.declared.Request.TheVariants.{Fresh, Load, Command, Halt, SwitchOpen, SwitchClosed, Run, State, Words, Key, Cursor, Empty, Error}
use Rattle.console_script.specs.Cases.{returned}
use Rattle.console_script.specs.Script.{first_word, rest_of, lone, are_hex, are_sights, load_in, room_in, command_in, run_in, range_in, code_in, key_in, argued_of, plain_of, request_of}

pub each_kind :
    map request_of
    (spelled "fresh 4096" ∷ spelled "load 8192 0200" ∷ spelled "command 01 0 2A81" ∷ spelled "command 0F 16" ∷ spelled "halt" ∷ spelled "switch open"
    ∷ spelled "switch closed" ∷ spelled "run 16 012" ∷ spelled "run 16" ∷ spelled "state" ∷ spelled "words 10 2" ∷ spelled "key C1" ∷ spelled "key advance"
    ∷ spelled "key backspace" ∷ spelled "key jump" ∷ spelled "cursor" ∷ spelled "" ∷ spelled "# a box" ∷ [])
    ≡ Fresh 4096 ∷ Load 8192 ∷ Command 0x01 0 ∷ Command 0x0F 16 ∷ Halt ∷ SwitchOpen ∷ SwitchClosed ∷ Run 16 ∷ Run 16 ∷ State ∷ Words 10 2 ∷ Key 0xC1 ∷ Key 256
    ∷ Key 257 ∷ Key 258 ∷ Cursor ∷ Empty ∷ Empty ∷ []
unfolding request_of plain_of argued_of first_word rest_of lone are_hex are_sights load_in room_in command_in run_in range_in code_in key_in all_below number_from index_of index_after hex_byte_at digit_at
each_kind = refl

pub all_errors : map request_of returned ≡ map (λ (line : List ℕ). Error) returned
unfolding request_of plain_of argued_of first_word rest_of lone are_hex are_sights load_in room_in command_in run_in range_in code_in key_in all_below number_from index_of index_after
all_errors = refl

pub passed_over : request_of (spelled "# a box" ++ (13 ∷ [])) ≡ Empty
unfolding request_of
passed_over = refl
