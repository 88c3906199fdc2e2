-- What the program `wrap SIZE START` makes of its arguments and its input, and all that it writes.
use Rattle.std.specs.Prelude.{ℕ, ◌+◌, ◌<◌, ◌≡◌, ◌⊎◌, true, cond, List, [], length, take, eqb, ltb, Option, Some, None, Result, Ok, Err}
use Rattle.std.specs.declared.ops.ControlFlow.{ControlFlow}
use Rattle.std.specs.declared.ops.ControlFlow.TheVariants.{Break, Continue}
use Rattle.record_make.specs.Making.{record_of}
use Rattle.text_input.specs.declared.Came.{Came}
use Rattle.text_input.specs.declared.Came.TheVariants as came
use Rattle.text_parse.specs.Parse.{parsed_of}
use Rattle.text_put.specs.Text.{spelled}
use Rattle.wrap.specs.declared.Asked.{Asked}
use Rattle.wrap.specs.declared.Complaint.{Complaint}
use Rattle.wrap.specs.declared.Complaint.TheVariants.{Usage, Size, Start, Long, Failed}
use Rattle.wrap.specs.declared.Report.{Report}

-- WHAT THE ARGUMENTS ASK. SIZE and START are decimal numbers of one to five digits, below 65,536: a record has two bytes for each
abbrev pub argument_by : Option ℕ → Option ℕ
argument_by (Some n) = cond (ltb n 65536) (Some n) None
argument_by None = None

abbrev pub argument_of : List ℕ → Option ℕ
argument_of text = argument_by (parsed_of text)

-- the first of the two that is wrong is complained of
abbrev pub asked_by : Option ℕ → Option ℕ → Result Asked Complaint
asked_by None start = Err Size
asked_by (Some size) None = Err Start
asked_by (Some size) (Some start) = Ok (record { size = size; start = start })

-- with the program's own name there are three
abbrev pub asked_of : ℕ → List ℕ → List ℕ → Result Asked Complaint
asked_of count size start = cond (eqb count 3) (asked_by (argument_of size) (argument_of start)) (Err Usage)

-- WHAT THE INPUT IS, one read after another. Where `end` bytes stand in a space of `room`: an image leaves room in the space, and a read
-- that fails is not the image's end
abbrev pub read_on : ℕ → ℕ → Came → ControlFlow (Result ℕ Complaint) ℕ
read_on room end (came.Bytes count) = cond (ltb (end + count) room) (Continue (end + count)) (Break (Err Long))
read_on room end came.End = Break (Ok end)
read_on room end came.Failed = Break (Err Failed)

-- so it is an image that leaves room, or one of two complaints
abbrev pub ReadWithin : ℕ → Result ℕ Complaint → Type 0
ReadWithin room (Ok count) = count < room
ReadWithin room (Err complaint) = (complaint ≡ Long) ⊎ (complaint ≡ Failed)

-- where the arguments are wrong nothing is read, and what is wrong with them is what is wrong with the input
abbrev pub ReadFor : Result Asked Complaint → ℕ → Result (Asked × ℕ) Complaint → Type 0
ReadFor (Ok asked) room (Ok wanted) = (wanted.0 ≡ asked) × (wanted.1 < room)
ReadFor (Ok asked) room (Err complaint) = (complaint ≡ Long) ⊎ (complaint ≡ Failed)
ReadFor (Err complaint) room found = found ≡ Err complaint

-- WHAT IS WRITTEN: a text on standard output, and one on standard error
pub record Wrapped : Type 0 where
  pub output : List ℕ
  pub error : List ℕ

-- the line of each complaint
abbrev pub complaint_line : Complaint → List ℕ
complaint_line Usage = spelled "usage: wrap SIZE START < IMAGE > RECORD\n"
complaint_line Size = spelled "wrap: SIZE is not a decimal number from 0 to 65535\n"
complaint_line Start = spelled "wrap: START is not a decimal number from 0 to 65535\n"
complaint_line Long = spelled "wrap: the image has more than 65535 bytes\n"
complaint_line Failed = spelled "wrap: the image cannot be read\n"

-- a complaint is told, and nothing else is written; else the record of the image that stands at the front of the space is written, and
-- nothing is told
abbrev pub wrapped_of : Result (Asked × ℕ) Complaint → List ℕ → Wrapped
wrapped_of (Ok wanted) space = record { output = record_of (take wanted.1 space) wanted.0.size wanted.0.start; error = [] }
wrapped_of (Err complaint) space = record { output = []; error = complaint_line complaint }

-- ALL THAT THE PROGRAM DOES, from what the arguments ask: it reads what is asked for; the buffer begins with the text for standard output,
-- and the line is the one for standard error; standard error is told as many bytes as its text has, and standard output, where it is open
-- still, was handed as many as its own has
pub record Wraps (asks : Result Asked Complaint) (space out : List ℕ) (report : Report) : Type 0 where
  pub read : ReadFor asks 65536 report.input
  pub output_made : take (length (wrapped_of report.input space).output) out ≡ (wrapped_of report.input space).output
  pub error_made : report.line.now ≡ (wrapped_of report.input space).error
  pub told : report.told ≡ length (wrapped_of report.input space).error
  pub handed : report.output.open ≡ true → report.output.written ≡ length (wrapped_of report.input space).output
