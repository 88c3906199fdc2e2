-- How a program may end that reads pieces and writes what they give, where `Whole` is what holds of all that was read and written, and
-- `SoFar` what holds before the input has ended.
use Rattle.std.specs.Prelude.{ℕ, ◌≤◌, ◌≡◌, false, cond}
use Rattle.text_output.specs.declared.Output.{Output}
use Rattle.text_stream.specs.declared.Ending.{Ending}
use Rattle.text_stream.specs.declared.Ending.TheVariants.{All, Shut, Failed, Endless}
use Rattle.text_stream.specs.declared.Streamed.{Streamed}

abbrev pub EndedBy : (Streamed → Type 0) → (Streamed → Type 0) → Streamed → Ending → Type 0
EndedBy Whole SoFar r All = Whole r
EndedBy Whole SoFar r Shut = r.output.open ≡ false
EndedBy Whole SoFar r Failed = SoFar r
EndedBy Whole SoFar r Endless = 18446744073709486078 ≤ r.came

abbrev pub StreamEnds : (Streamed → Type 0) → (Streamed → Type 0) → Streamed → Type 0
StreamEnds Whole SoFar r = EndedBy Whole SoFar r r.ending

-- an output that is open still has taken all
abbrev pub closed_of : ℕ → Output → Streamed
closed_of came output = record { came = came; output = output; ending = cond output.open All Shut }
