-- The console over a script that comes in pieces: one unit, which goes on from line to line, and the line that is open.
use Rattle.std.specs.Prelude.{ℕ, ◌+◌, ◌≤◌, ◌<◌, ◌≡◌, List, [], ◌++◌, length, take}
use Rattle.text_put.specs.Text.{put_at, end_of}
use Rattle.ground_setup.specs.declared.Size.TheVariants.{K4}
use Rattle.device_2250.specs.Device.{fresh_of}
use Rattle.console_intake.specs.Intake.{open_line}
use Rattle.console_session.specs.Play.{play_from}
use Rattle.console_dialogue.specs.declared.Dialogue.{Dialogue}
use Rattle.text_pieces.specs.declared.Fed.{Fed}

-- before the first piece: a fresh unit of 4,096, and no line is open
abbrev pub first_dialogue : Dialogue
first_dialogue = record { device = fresh_of K4; seen = 0 }

-- WHAT IS TO COME: what is printed from here on, where the rest of the script is `rest`
abbrev pub to_come : Dialogue → List ℕ → List ℕ → List ℕ
to_come d kept rest = play_from d.device (open_line d.seen kept ++ rest)

-- A TEXT ANSWERS some bytes: whatever follows them, what is to come before them is the text, and what is to come behind them
abbrev pub Answers : Dialogue → List ℕ → List ℕ → List ℕ → Dialogue → List ℕ → Type 0
Answers d kept bytes text d' kept' = (rest : List ℕ) → to_come d kept (bytes ++ rest) ≡ text ++ to_come d' kept' rest

-- A PIECE IS TAKEN IN as far as it is used: a text answers those bytes, and is put into a buffer from a place on, where it finds room
pub record TakesIn (d : Dialogue) (kept piece out : List ℕ) (at : ℕ) (fed : Fed) (d' : Dialogue) (kept' out' : List ℕ) : Type 0 where
  pub text : List ℕ
  pub answers : Answers d kept (take fed.used piece) text d' kept'
  pub within : fed.used ≤ length piece
  pub room : at + length text ≤ length out
  pub ends : fed.end ≡ end_of out at text
  pub puts : out' ≡ put_at out at text

-- a piece is left over only where an answer might find no room; where it does at first, some of the piece is used
pub record LeavesOver (piece out : List ℕ) (fed : Fed) : Type 0 where
  pub all : fed.end + 487600 ≤ length out → fed.used ≡ length piece
  pub some : 487600 ≤ length out → 0 < length piece → 0 < fed.used

-- CALLS OF `feed`, one behind the other: all bytes that they used, and all that they put into the buffer
pub data Feedings : Dialogue → List ℕ → List ℕ → List ℕ → Dialogue → List ℕ → Type 0 where
  none : {d : Dialogue} {kept : List ℕ} → Feedings d kept [] [] d kept
  more : {d d₁ d' : Dialogue} {kept kept₁ kept' bytes texts : List ℕ} (piece out out₁ : List ℕ) (fed : Fed)
      → TakesIn d kept piece out 0 fed d₁ kept₁ out₁
      → Feedings d₁ kept₁ bytes texts d' kept'
      → Feedings d kept (take fed.used piece ++ bytes) (take fed.end out₁ ++ texts) d' kept'
