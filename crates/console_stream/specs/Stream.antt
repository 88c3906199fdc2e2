-- The console over standard input and output. No contract can say which bytes a read gives, nor whether a write takes those that it is given;
-- these say what is done with them, and count both.
use Rattle.std.specs.Prelude.{◌≡◌, List, ℕ, ◌++◌}
use Rattle.text_stream.specs.Ends.{StreamEnds}
use Rattle.text_stream.specs.Listen.{AllGiven, GivenSoFar}
use Rattle.text_stream.specs.declared.Streamed.{Streamed}
use Rattle.console_session.specs.Play.{play_of}
use Rattle.console_dialogue.specs.Dialogue.{first_dialogue, to_come}
use Rattle.console_dialogue.specs.declared.Dialogue.{Dialogue}
use Rattle.console_stream.specs.declared.Holder.{Holder}

-- WHERE THE DIALOGUE STANDS once a script was taken in up to its rest, and a text given out: whatever follows, what was to come at the beginning
-- is the text, and what is to come before the rest and what follows
pub record Played (d : Dialogue) (kept script rest text : List ℕ) : Type 0 where
  pub start : List ℕ
  pub answers : (more : List ℕ) → to_come first_dialogue start (script ++ more) ≡ text ++ to_come d kept (rest ++ more)

-- THE WHOLE: as many bytes were written as the text has that is printed for a script of as many bytes as came
abbrev pub AllPlayed : Streamed → Type 0
AllPlayed r = AllGiven (λ script text. text ≡ play_of script) r

-- a read has failed: as many bytes were written as were given out for the lines that came whole, and none for the one that is open
abbrev pub PlayedSoFar : Streamed → Type 0
PlayedSoFar r = GivenSoFar (λ (h : Holder). Played h.dialogue h.kept) r

abbrev pub Holds : Streamed → Type 0
Holds r = StreamEnds AllPlayed PlayedSoFar r
