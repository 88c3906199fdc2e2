-- A unit that the calls could have made, in an array of n words (01, "Locations and the device" and "Beam"; 02, C-15).
use Rattle.std.specs.Prelude.{ℕ, ◌%◌, ◌≤◌, ◌<◌, ◌≡◌, true, false, length, get_or}
use Rattle.ground_location.specs.Location.{proper_of, fresh_word}
use Rattle.ground_setup.specs.Setup.{size_of}
use Rattle.ground_setup.specs.declared.Size.{Size}
use Rattle.unit_beam.specs.declared.Beam.{Beam}
use Rattle.unit_pen.specs.declared.Pen.{Pen}
use Rattle.unit_cursor.specs.Cursor.{Buffer, cursors_in}
use Rattle.unit_head.specs.declared.State.{State}
use Rattle.unit_head.specs.Head.{DisplayUnit, size_in, buffer_of}

-- "The device's state holds the whole array"; "the rest zero"; "a 4,096 unit never uses the upper half"; "the number of set cursor bits ..
-- equal to the full count"
pub record BufferMade (n : ℕ) (s : Size) (b : Buffer) : Type 0 where
  pub housed : size_of s ≤ n
  pub whole : length b.words ≡ n
  pub proper : (k : ℕ) → k < n → proper_of (get_or b.words k 0) ≡ true
  pub upper : (k : ℕ) → size_of s ≤ k → k < n → get_or b.words k 0 ≡ fresh_word
  pub counted : b.cursor.count ≡ cursors_in (size_of s) b.words

-- "X and Y have ten bits."
pub record BeamMade (b : Beam) : Type 0 where
  pub x : b.x < 1024
  pub y : b.y < 1024

-- "if the switch is closed and this closure has had neither a detect nor a no-detect transfer in normal mode, arms it. Arming lasts until
-- such a detect or transfer, or until the switch opens": an armed pen has its switch closed and its closure unspent
pub record PenMade (p : Pen) : Type 0 where
  pub closed : p.armed ≡ true → p.closed ≡ true
  pub unspent : p.armed ≡ true → p.spent ≡ false

-- the address is one of the buffer's; a unit that runs stands at an even one, "A place is an even address A and a mode"
pub record StateMade (s : State) : Type 0 where
  pub address : s.address < size_of s.setup.size
  pub even : s.running ≡ true → s.address % 2 ≡ 0
  pub beam : BeamMade s.beam
  pub pen : PenMade s.pen

-- a unit that runs has no status waiting: a start that meets one is answered by it and starts nothing, and what leaves one stops the unit
pub record WellMade (n : ℕ) (u : DisplayUnit) : Type 0 where
  pub buffer : BufferMade n (size_in u) (buffer_of u)
  pub state : StateMade u.head.state
  pub clear : u.head.state.running ≡ true → u.head.status ≡ 0
