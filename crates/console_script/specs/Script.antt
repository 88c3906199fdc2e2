-- The requests of a script: one a line, words parted by one space, numbers decimal up to five digits, bytes and words in
-- capital hexadecimal without separators.
use Rattle.std.specs.Prelude.{ℕ, ◌+◌, ◌%◌, Bool, false, cond, List, length, get_or, take, drop, leb, eqb, Option, Some, None}
use Rattle.std.specs.Str.{bytes_eq}
use Rattle.text_parse.specs.Index.{index_of}
use Rattle.text_put.specs.Text.{spelled}
use Rattle.text_digits.specs.Digits.{all_below, hex_byte_at}
use Rattle.text_parse.specs.Parse.{parsed_of}
use Rattle.console_script.specs.declared.Request.{Request}
use Rattle.console_script.specs.declared.Request.TheVariants.{Fresh, Load, Command, Halt, SwitchOpen, SwitchClosed, Run, State, Words, Key, Cursor, Empty, Error}

-- a line's first word, what stands behind the space after it, and whether there is no space
unfoldable pub first_word : List ℕ → List ℕ
first_word line = take (index_of 32 line) line

unfoldable pub rest_of : List ℕ → List ℕ
rest_of line = drop (index_of 32 line + 1) line

unfoldable pub lone : List ℕ → Bool
lone line = eqb (index_of 32 line) (length line)

-- letter by letter
abbrev pub same : List ℕ → List ℕ → Bool
same = bytes_eq

-- hexadecimal numbers of so many digits each
unfoldable pub are_hex : ℕ → List ℕ → Bool
are_hex width text = cond (eqb (length text) 0) false (cond (eqb (length text % width) 0) (all_below 16 text) false)

-- bytes have two digits each, words four, sights one decimal digit each; none at all is no such text
abbrev pub are_bytes : List ℕ → Bool
are_bytes text = are_hex 2 text

abbrev pub are_words : List ℕ → Bool
are_words text = are_hex 4 text

unfoldable pub are_sights : List ℕ → Bool
are_sights text = cond (eqb (length text) 0) false (all_below 10 text)

-- a number that is not above a bound
abbrev pub up_to : ℕ → Option ℕ → Option ℕ
up_to most (Some n) = cond (leb n most) (Some n) None
up_to most None = None

-- `fresh SIZE`
abbrev pub fresh_request : Option ℕ → Request
fresh_request (Some size) = Fresh size
fresh_request None = Error

-- `load SIZE WORDS`: the words are what stands behind two spaces
abbrev pub load_request : Option ℕ → Request
load_request (Some size) = Load size
load_request None = Error

unfoldable pub load_in : List ℕ → Request
load_in rest = cond (are_words (rest_of rest)) (load_request (parsed_of (first_word rest))) Error

-- `command CODE ROOM [DATA]`, the room up to 65,535 bytes: the data are what stands behind three spaces
abbrev pub command_request : ℕ → Option ℕ → Request
command_request code (Some room) = Command code room
command_request code None = Error

unfoldable pub room_in : ℕ → List ℕ → Request
room_in code rest =
    cond (lone rest) (command_request code (up_to 65535 (parsed_of rest)))
    (cond (are_bytes (rest_of rest)) (command_request code (up_to 65535 (parsed_of (first_word rest)))) Error)

unfoldable pub command_in : List ℕ → Request
command_in rest =
    cond (eqb (length (first_word rest)) 2)
    (cond (all_below 16 (first_word rest)) (room_in (hex_byte_at (first_word rest) 0) (rest_of rest)) Error)
    Error

-- `run ROOM [SIGHTS]`, the room up to 4,096 items: the sights are what stands behind two spaces
abbrev pub run_request : Option ℕ → Request
run_request (Some room) = Run room
run_request None = Error

unfoldable pub run_in : List ℕ → Request
run_in rest =
    cond (lone rest) (run_request (up_to 4096 (parsed_of rest)))
    (cond (are_sights (rest_of rest)) (run_request (up_to 4096 (parsed_of (first_word rest)))) Error)

-- `words FROM COUNT`
abbrev pub range_request : Option ℕ → Option ℕ → Request
range_request (Some from) (Some count) = Words from count
range_request (Some from) None = Error
range_request None count = Error

unfoldable pub range_in : List ℕ → Request
range_in rest = range_request (parsed_of (first_word rest)) (parsed_of (rest_of rest))

-- `key CC`: the key of a code, two digits
unfoldable pub code_in : List ℕ → Request
code_in rest = cond (eqb (length rest) 2) (cond (all_below 16 rest) (Key (hex_byte_at rest 0)) Error) Error

-- `key advance`, `key backspace`, `key jump`: the keys of the numbers 256, 257 and 258
unfoldable pub key_in : List ℕ → Request
key_in rest =
    cond (same rest (spelled "advance")) (Key 256)
    (cond (same rest (spelled "backspace")) (Key 257) (cond (same rest (spelled "jump")) (Key 258) (code_in rest)))

-- the requests that have arguments, by their first word
unfoldable pub argued_of : List ℕ → List ℕ → Request
argued_of word rest =
    cond (same word (spelled "command")) (command_in rest)
    (cond (same word (spelled "run")) (run_in rest)
    (cond (same word (spelled "words")) (range_in rest)
    (cond (same word (spelled "load")) (load_in rest)
    (cond (same word (spelled "fresh")) (fresh_request (parsed_of rest)) (cond (same word (spelled "key")) (key_in rest) Error)))))

-- the requests that are whole lines, then those with arguments
unfoldable pub plain_of : List ℕ → Request
plain_of line =
    cond (same line (spelled "state")) State
    (cond (same line (spelled "halt")) Halt
    (cond (same line (spelled "switch open")) SwitchOpen
    (cond (same line (spelled "switch closed")) SwitchClosed
    (cond (same line (spelled "cursor")) Cursor (argued_of (first_word line) (rest_of line))))))

-- empty lines and lines that begin with `#` are passed over
unfoldable pub request_of : List ℕ → Request
request_of line =
    cond (eqb (length line) 0) Empty (cond (eqb (get_or line 0 0) 35) Empty (plain_of line))
