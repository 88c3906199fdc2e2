use Rattle.std.proofs.Common.{◌≡◌, ◌≤◌, ◌++◌, ℕ, Bool, List, length, take, drop}
use Rattle.ground_setup.specs.declared.Size.{Size}
use Rattle.unit_cursor.specs.Cursor.{Buffer, buffer}
use Rattle.unit_buffer.specs.Buffer.{room_read, read_of, given_from, read_from}
use Rattle.unit_buffer.proofs.read_out.Given as goal

-- What was given before index i and what is left from it on are the whole read.
pub record Reading (b : Buffer) (s : Size) (seek : Bool) (start : ℕ) (room₀ room : List ℕ) (a i : ℕ) : Type 0 where
  pub within : i ≤ length room
  pub long : length room ≡ length room₀
  pub given_left : room_read b s seek start room₀ ≡ take i room ++ given_from b s seek a (drop i room)
  pub read_left : read_of b s seek start room₀ ≡ read_from b s seek a i (drop i room)

abbrev pub invariant-loop-i : goal.invariant-loop-i
invariant-loop-i l = Reading (buffer l.words l.fn.cursor) l.size l.seek l.fn.at l.initial.room l.room l.a l.i
