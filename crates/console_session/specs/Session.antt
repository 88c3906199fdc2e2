-- The console's language: what each request does to the unit and what is printed for it.
use Rattle.std.specs.Prelude.{ℕ, ◌*◌, ◌/◌, ◌≤◌, ◌≡◌, true, false, cond, List, [], ◌++◌, length, replicate, leb, Err, Ok, Result}
use Rattle.ground_setup.specs.declared.Size.{Size}
use Rattle.ground_refusals.specs.declared.Refusal.{Refusal}
use Rattle.text_put.specs.Text.{spelled, put_at, end_of}
use Rattle.ground_refusals.specs.Refusals.{refusal_number}
use Rattle.ground_setup.specs.Setup.{size_of, sized_of}
use Rattle.console_replies.specs.Replies.{ok_line, error_line, refusal_line, heard_line, ran_line}
use Rattle.console_run.specs.Pair.{RunValues, RunEnd, pair_run}
use Rattle.console_contents.specs.Contents.{status_line, words_line}
use Rattle.console_pictures.specs.Pictures.{items_text}
use Rattle.console_conditions.specs.Conditions.{state_line}
use Rattle.device_2250.specs.Device.{unit_of, device_of, fresh_of, switched_of, any_cursor}
use Rattle.device_2250.specs.declared.Device.{Device}
use Rattle.unit_loading.specs.Loading.{LoadValues, LoadEnd, unit_load}
use Rattle.unit_commands.specs.Commands.{CommandValues, CommandEnd, unit_command}
use Rattle.typing_keys.specs.Keys.{KeyValues, KeyEnd, unit_key}
use Rattle.console_script.specs.Script.{rest_of, request_of}
use Rattle.console_script.specs.declared.Request.{Request}
use Rattle.console_script.specs.declared.Request.TheVariants as request
use Rattle.console_decode.specs.Decode.{bytes_in, words_in, sights_in}

-- what a request leads to: the device after it, and the text that is printed
pub record Said : Type 0 where
  pub device : Device
  pub text : List ℕ

abbrev pub said : Device → List ℕ → Said
said d text = record { device = d; text = text }

-- `refused N`
abbrev pub refused_said : Device → ℕ → Said
refused_said d n = said d (refusal_line n)

-- `fresh SIZE`: `ok` or `refused N`
abbrev pub fresh_said : Device → Result Size Refusal → Said
fresh_said d (Ok s) = said (fresh_of s) ok_line
fresh_said d (Err r) = refused_said d (refusal_number r)

-- `load SIZE WORDS`: `ok` or `refused N`
abbrev pub load_told : Device → LoadValues → Said
load_told d LoadValues.loaded = said d ok_line
load_told d (LoadValues.refused n) = refused_said d n

abbrev pub load_said : LoadEnd → Said
load_said e = load_told (device_of e.unit) e.answer

-- `command CODE ROOM [DATA]`: "`status SS` and, if bytes were given, a space and the bytes; or `refused N`"
abbrev pub command_told : Device → CommandValues → List ℕ → Said
command_told d (CommandValues.ended status count) room = said d (status_line status room count)
command_told d (CommandValues.refused n) room = refused_said d n

abbrev pub command_said : CommandEnd → Said
command_said e = command_told (device_of e.unit) e.answer e.room

-- `run ROOM [SIGHTS]`: "`ran STEPS end WHY items N`, then a line for each item; or `refused 8`"
abbrev pub run_told : Device → RunValues → List ℕ → Said
run_told d (RunValues.ran steps why items) list = said d (ran_line steps why items ++ items_text list items)
run_told d (RunValues.refused n) list = refused_said d n

abbrev pub run_said : RunEnd → Said
run_said e = run_told (device_of e.unit) e.answer e.list

-- `key CC`, `key advance`, `key backspace`, `key jump`: "`unheard`, `heard` or, where the number is unknown, `refused 13`"
abbrev pub key_told : Device → KeyValues → Said
key_told d (KeyValues.refused n) = refused_said d n
key_told d KeyValues.unheard = said d (heard_line false)
key_told d (KeyValues.heard stored to) = said d (heard_line true)

abbrev pub key_said : KeyEnd → Said
key_said e = key_told (device_of e.unit) e.answer

-- `state`: the state line
abbrev pub state_said : Device → Said
state_said d = said d (state_line d.head)

-- `cursor`: "prints `yes` or `no`"
abbrev pub cursor_said : Device → Said
cursor_said d = said d (cond (any_cursor d) (spelled "yes\n") (spelled "no\n"))

-- `words FROM COUNT`: the words
abbrev pub words_said : Device → ℕ → ℕ → Said
words_said d from count = said d (words_line d.words (size_of d.head.state.setup.size) from count)

-- all bytes, all words and all sights of a text
abbrev pub bytes_sent : List ℕ → List ℕ
bytes_sent text = bytes_in text (length text / 2)

abbrev pub dump_sent : List ℕ → List ℕ
dump_sent text = words_in text (length text / 4)

abbrev pub sights_sent : List ℕ → List ℕ
sights_sent text = sights_in text (length text)

-- a request of a line: the data of a command stand behind its third space, words and sights behind the second; the room that is
-- lent is zero
abbrev pub said_by : Device → List ℕ → Request → Said
said_by d line (request.Fresh size) = fresh_said d (sized_of size)
said_by d line (request.Load size) = load_said (unit_load (unit_of d) size (dump_sent (rest_of (rest_of line))))
said_by d line (request.Command code room) =
    command_said (unit_command (unit_of d) code (bytes_sent (rest_of (rest_of (rest_of line)))) (replicate room 0))
said_by d line request.Halt = said d ok_line
said_by d line request.SwitchOpen = said (switched_of d false) ok_line
said_by d line request.SwitchClosed = said (switched_of d true) ok_line
said_by d line (request.Run room) = run_said (pair_run (unit_of d) (sights_sent (rest_of (rest_of line))) (replicate (8 * room) 0))
said_by d line request.State = state_said d
said_by d line (request.Words from count) = words_said d from count
said_by d line (request.Key number) = key_said (unit_key (unit_of d) number)
said_by d line request.Cursor = cursor_said d
said_by d line request.Empty = said d []
said_by d line request.Error = said d error_line

-- a line: "one longer than 40,000 bytes, prints `error` and changes nothing"
unfoldable pub said_of : Device → List ℕ → Said
said_of d line = cond (leb (length line) 40000) (said_by d line (request_of line)) (said d error_line)

-- the rooms that a line can ask for: "ROOM up to 65535 bytes", "ROOM in items, up to 4096"
abbrev pub Fits : Request → Type 0
Fits (request.Fresh size) = Unit {0}
Fits (request.Load size) = Unit {0}
Fits (request.Command code room) = room ≤ 65535
Fits request.Halt = Unit {0}
Fits request.SwitchOpen = Unit {0}
Fits request.SwitchClosed = Unit {0}
Fits (request.Run room) = room ≤ 4096
Fits request.State = Unit {0}
Fits (request.Words from count) = Unit {0}
Fits (request.Key number) = Unit {0}
Fits request.Cursor = Unit {0}
Fits request.Empty = Unit {0}
Fits request.Error = Unit {0}

-- what a call ensures that answers a request: the device that it leaves, where the text ends, and the text put into the buffer
pub record Speaks (s : Said) (buffer : List ℕ) (at : ℕ) (after : List ℕ) (left : Device) (ends : ℕ) : Type 0 where
  pub device : left ≡ s.device
  pub end : ends ≡ end_of buffer at s.text
  pub lines : after ≡ put_at buffer at s.text

-- the same of a call that leaves a refusal to its caller: nothing is put of it
abbrev pub Responds : Said → List ℕ → ℕ → List ℕ → Device → Result ℕ Refusal → Type 0
Responds s buffer at after left (Ok end) = Speaks s buffer at after left end
Responds s buffer at after left (Err r) = (refused_said left (refusal_number r) ≡ s) × (after ≡ buffer)
