-- One byte's turn of a write, by the definitions: what is left from index i on is this byte and what is left from i + 1 on.
use Prim.Native.Nat.{ℕ, suc, ◌+◌, ◌<◌, ◌≤◌}
use native.Mathlib.Numerals.{add-one}
use mathlib.Core.Path.{◌≡◌, sym, ap, ◌∙◌}
use mathlib.Core.Bool.{true, false}
use mathlib.Core.List.{List}
use lib.ListN.{length, drop, get_or, length-set, drop_of_length-le}
use lib.Seq.{drop-cons}
use Rattle.ground_location.specs.Location.{word_of}
use Rattle.ground_setup.specs.Setup.{ahead_of}
use Rattle.ground_setup.specs.declared.Size.{Size}
use Rattle.unit_cursor.specs.Cursor.{Buffer, stored}
use Rattle.unit_buffer.specs.Buffer.{wrote, written_from}

module _ (s : Size) (a : ℕ) (bytes : List ℕ) (i : ℕ) (b : Buffer) where
  pub write_one : i < length bytes → (after : Buffer) → after ≡ stored a (word_of (get_or bytes i 0) false true) b
      → written_from s a (drop i bytes) b ≡ written_from s (ahead_of s a 1) (drop (i + 1) bytes) after
  unfolding written_from
  write_one h after e = rw (add-one i, drop-cons bytes i 0) (ap (written_from s (ahead_of s a 1) (drop (suc i) bytes)) (sym e))

  -- the store of this byte leaves as many words as there were
  pub write_long : (after : Buffer) → after ≡ stored a (word_of (get_or bytes i 0) false true) b → length after.words ≡ length b.words
  write_long after e = ap (λ (x : Buffer). length x.words) e ∙ length-set b.words a (word_of (get_or bytes i 0) false true)

  pub write_all : length bytes ≤ i → written_from s a (drop i bytes) b ≡ wrote a b
  unfolding written_from
  write_all h = rw (drop_of_length-le bytes h)
