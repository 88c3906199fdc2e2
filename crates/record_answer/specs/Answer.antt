-- What is printed for a whole record (01, "Records and the printed verdict"): its refusal, or the verdict on its image.
use Rattle.std.specs.Prelude.{ℕ, ◌≡◌, List, length, drop, Result, Ok, Err}
use Rattle.text_put.specs.Text.{put_at, end_of}
use Rattle.ground_refusals.specs.Refusals.{refusal_number}
use Rattle.ground_refusals.specs.declared.Refusal.{Refusal}
use Rattle.record_format.specs.Records.{kind_in, payload_of}
use Rattle.record_format.specs.declared.Image.{Image}
use Rattle.record_lines.specs.Lines.{passed_line, fault_line, refused_line}
use Rattle.validator_verdict.specs.Verdict.{VerdictValues, tried_of, Judged}

-- the line of a verdict, in 01's numbers
abbrev pub verdict_line : ℕ → VerdictValues → List ℕ
verdict_line number (VerdictValues.passed places) = passed_line number places
verdict_line number (VerdictValues.fault fault address steps) = fault_line number fault address steps
verdict_line number (VerdictValues.refused refusal) = refused_line number refusal

-- what is printed for a payload, and left of a working store: its refusal, or the verdict on its image
abbrev pub LineOf : Result Image Refusal → List ℕ → ℕ → List ℕ → List ℕ → List ℕ → Type 0
LineOf (Err refusal) image number store store' line =
    (line ≡ refused_line number (refusal_number refusal)) × (store' ≡ store)
LineOf (Ok head) image number store store' line =
    (values : VerdictValues)
    × (Judged (tried_of head.size (length image) head.start (length store)) image head.start store store' values)
    × (line ≡ verdict_line number values)

-- the same of all bytes of a record: its payload stands behind six bytes, its image behind ten
abbrev pub AnswerOf : ℕ → List ℕ → List ℕ → List ℕ → List ℕ → Type 0
AnswerOf number whole store store' line = LineOf (payload_of (kind_in whole) (drop 6 whole)) (drop 10 whole) number store store' line

-- THE LINE OF A RECORD: "passed" and places, "fault .. at .. after", or "refused", with 01's working store of 32,768 bytes
abbrev pub RecordLine : ℕ → List ℕ → List ℕ → Type 0
RecordLine number whole line =
    (store : List ℕ) × ((store' : List ℕ) × ((length store ≡ 32768) × AnswerOf number whole store store' line))

-- a call that puts such a line into a buffer
pub record LineAnswered (payload : Result Image Refusal) (image : List ℕ) (number : ℕ) (store store' buffer : List ℕ) (at : ℕ) (after : List ℕ) (end : ℕ) : Type 0 where
  pub line : List ℕ
  pub right : LineOf payload image number store store' line
  pub ends : end ≡ end_of buffer at line
  pub stands : after ≡ put_at buffer at line
