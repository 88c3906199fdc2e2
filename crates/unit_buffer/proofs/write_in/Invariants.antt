use Rattle.std.proofs.Common.{◌≡◌, ◌≤◌, ℕ, List, length, drop}
use Rattle.ground_setup.specs.declared.Size.{Size}
use Rattle.unit_cursor.specs.Cursor.{Buffer, buffer}
use Rattle.unit_buffer.specs.Buffer.{bytes_written, written_from}
use Rattle.unit_buffer.proofs.write_in.Given as goal

-- What is left to write from index i on gives the whole write.
pub record Writing (b₀ : Buffer) (s : Size) (start : ℕ) (bytes : List ℕ) (b : Buffer) (a i : ℕ) : Type 0 where
  pub within : i ≤ length bytes
  pub long : length b.words ≡ length b₀.words
  pub left : bytes_written s start bytes b₀ ≡ written_from s a (drop i bytes) b

abbrev pub invariant-loop-byte : goal.invariant-loop-byte
invariant-loop-byte l = Writing (buffer l.initial.words l.initial.cursor) l.size l.fn.at l.bytes (buffer l.words l.cursor) l.a l.byte-index
