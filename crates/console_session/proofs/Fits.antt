-- A line asks for no more room than its request may have.
use Rattle.std.specs.Prelude.{None, Option, Some}
use Prim.Native.Nat.{ℕ}
use mathlib.Core.Path.{◌≡◌, refl}
use mathlib.Core.Bool.{Bool, true, false, cond}
use mathlib.Core.List.{List}
use borrow.Author.Tests.{leb-true}
use lib.Dec.{leb, eqb}
use lib.ListN.{length, get_or}
use Rattle.text_put.specs.Text.{spelled}
use Rattle.text_parse.specs.Parse.{parsed_of}
use Rattle.console_script.specs.Script.{first_word, rest_of, lone, same, are_bytes, are_words, are_sights, up_to, fresh_request, load_request, load_in, command_request, room_in, command_in, run_request, run_in, range_request, range_in, code_in, key_in, argued_of, plain_of, request_of}
use Rattle.text_digits.specs.Digits.{all_below, hex_byte_at}
use Rattle.console_script.specs.declared.Request.{Request}
use Rattle.console_session.specs.Session.{Fits}

record Fit (r : Request) : Type 0 where
  fits : Fits r

either : {p q : Request} (t : Bool) → Fit p → Fit q → Fit (cond t p q)
either true f g = f
either false f g = g

-- a room up to its bound
run_within : (n : ℕ) (t : Bool) → leb n 4096 ≡ t → Fit (run_request (cond t (Some n) None))
run_within n true e = record { fits = leb-true n 4096 e }
run_within n false e = record { fits = tt }

run_fits : (p : Option ℕ) → Fit (run_request (up_to 4096 p))
run_fits (Some n) = run_within n (leb n 4096) refl
run_fits None = record { fits = tt }

command_within : (code n : ℕ) (t : Bool) → leb n 65535 ≡ t → Fit (command_request code (cond t (Some n) None))
command_within code n true e = record { fits = leb-true n 65535 e }
command_within code n false e = record { fits = tt }

command_fits : (code : ℕ) (p : Option ℕ) → Fit (command_request code (up_to 65535 p))
command_fits code (Some n) = command_within code n (leb n 65535) refl
command_fits code None = record { fits = tt }

fresh_fits : (p : Option ℕ) → Fit (fresh_request p)
fresh_fits (Some n) = record { fits = tt }
fresh_fits None = record { fits = tt }

load_fits : (p : Option ℕ) → Fit (load_request p)
load_fits (Some n) = record { fits = tt }
load_fits None = record { fits = tt }

words_fits : (p q : Option ℕ) → Fit (range_request p q)
words_fits (Some from) (Some count) = record { fits = tt }
words_fits (Some from) None = record { fits = tt }
words_fits None q = record { fits = tt }

-- by the requests' definitions
rooms_fit : (code : ℕ) (rest : List ℕ) → Fit (room_in code rest)
unfolding room_in
rooms_fit code rest =
    either (lone rest) (command_fits code (parsed_of rest))
    (either (are_bytes (rest_of rest)) (command_fits code (parsed_of (first_word rest))) (record { fits = tt }))

commands_fit : (rest : List ℕ) → Fit (command_in rest)
unfolding command_in
commands_fit rest =
    either (eqb (length (first_word rest)) 2)
    (either (all_below 16 (first_word rest)) (rooms_fit (hex_byte_at (first_word rest) 0) (rest_of rest)) (record { fits = tt }))
    (record { fits = tt })

runs_fit : (rest : List ℕ) → Fit (run_in rest)
unfolding run_in
runs_fit rest =
    either (lone rest) (run_fits (parsed_of rest))
    (either (are_sights (rest_of rest)) (run_fits (parsed_of (first_word rest))) (record { fits = tt }))

loads_fit : (rest : List ℕ) → Fit (load_in rest)
unfolding load_in
loads_fit rest = either (are_words (rest_of rest)) (load_fits (parsed_of (first_word rest))) (record { fits = tt })

keys_fit : (rest : List ℕ) → Fit (key_in rest)
unfolding key_in code_in
keys_fit rest =
    either (same rest (spelled "advance")) (record { fits = tt })
    (either (same rest (spelled "backspace")) (record { fits = tt })
    (either (same rest (spelled "jump")) (record { fits = tt }) (either (eqb (length rest) 2) (either (all_below 16 rest) (record { fits = tt }) (record { fits = tt })) (record { fits = tt }))))

argued_fits : (word rest : List ℕ) → Fit (argued_of word rest)
unfolding argued_of range_in
argued_fits word rest =
    either (same word (spelled "command")) (commands_fit rest)
    (either (same word (spelled "run")) (runs_fit rest)
    (either (same word (spelled "words")) (words_fits (parsed_of (first_word rest)) (parsed_of (rest_of rest)))
    (either (same word (spelled "load")) (loads_fit rest)
    (either (same word (spelled "fresh")) (fresh_fits (parsed_of rest)) (either (same word (spelled "key")) (keys_fit rest) (record { fits = tt }))))))

plain_fits : (line : List ℕ) → Fit (plain_of line)
unfolding plain_of
plain_fits line =
    either (same line (spelled "state")) (record { fits = tt })
    (either (same line (spelled "halt")) (record { fits = tt })
    (either (same line (spelled "switch open")) (record { fits = tt })
    (either (same line (spelled "switch closed")) (record { fits = tt })
    (either (same line (spelled "cursor")) (record { fits = tt }) (argued_fits (first_word line) (rest_of line))))))

pub request_fits : (line : List ℕ) → Fits (request_of line)
unfolding request_of
request_fits line =
    (either (eqb (length line) 0) (record { fits = tt }) (either (eqb (get_or line 0 0) 35) (record { fits = tt }) (plain_fits line))).fits
