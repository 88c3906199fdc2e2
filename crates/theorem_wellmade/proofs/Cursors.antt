-- What a true number tells, shown. Assumes nothing.
use Rattle.std.specs.Prelude.{None, Option, Some}
use Prim.Native.Nat.{ℕ, ◌+◌, ◌<◌}
use native.Mathlib.Omega.{arith}
use mathlib.Core.Path.{◌≡◌, refl, sym, ap, ◌∙◌}
use mathlib.Core.Bool.{Bool, true, false, cond, not}
use mathlib.Core.List.{List, [], ◌∷◌}
use lib.Dec.{eqb}
use borrow.Author.Tests.{eqb-true, eq-eqb}
use Rattle.ground_setup.specs.Setup.{size_of, wrap_of, ahead_of}
use Rattle.ground_setup.specs.declared.Size.{Size}
use Rattle.ground_setup.proofs.Laws.{below}
use Rattle.unit_cursor.specs.Cursor.{Buffer, cursor_here}
use Rattle.unit_cursor.proofs.Laws.{none_set, none_counted}
use Rattle.unit_buffer.specs.Buffer.{given_from, read_from}
use Rattle.unit_head.specs.Head.{DisplayUnit, size_in, buffer_of}
use Rattle.unit_commands.specs.Commands.{read_by}
use Rattle.typing_seek.specs.Seek.{cursor_in}
use Rattle.typing_seek.proofs.Laws.{Lowest, cursor_lowest}
use Rattle.theorem_wellmade.specs.WellMade.{WellMade}
use Rattle.theorem_wellmade.specs.Cursors.{AllBare, AnyTells, ReadsAlike, FindsAlike}

not_false_is : (t : Bool) → not t ≡ false → t ≡ true
not_false_is true e = refl
not_false_is false e = let z : ◌≡◌ {A = ℕ} 0 1 = cc in absurd (omega arith)

module _ (b : Buffer) (s : Size) (bare : (k : ℕ) → k < size_of s → cursor_here b k ≡ false) where
  -- a read that seeks goes as one that does not
  given_alike : (a : ℕ) (room : List ℕ) → a < size_of s → given_from b s false a room ≡ given_from b s true a room
  unfolding given_from
  given_alike a [] h = refl
  given_alike a (x ∷ room) h = rw (bare a h, given_alike (ahead_of s a 1) room (below s (wrap_of s a + 1)))

  read_alike : (a n : ℕ) (room : List ℕ) → a < size_of s → read_from b s false a n room ≡ read_from b s true a n room
  unfolding read_from
  read_alike a n [] h = refl
  read_alike a n (x ∷ room) h = rw (bare a h, read_alike (ahead_of s a 1) (n + 1) room (below s (wrap_of s a + 1)))

  found_nowhere : (p : Option ℕ) → Lowest b 0 (size_of s) p → None ≡ p
  found_nowhere None l = refl
  found_nowhere (Some to) l =
      let c = l.1.1.0 in
      let none = bare to (omega (arith, l.1.0)) in
      let z : ◌≡◌ {A = ℕ} 0 1 = cc in
      absurd (omega arith)

module _ (n : ℕ) (u : DisplayUnit) (m : WellMade n u) where
  abbrev s : Size
  s = size_in u

  abbrev count : ℕ
  count = u.head.cursor.count

  bare_of : eqb count 0 ≡ true → AllBare u
  bare_of e = none_set (size_of s) u.words (sym m.buffer.counted ∙ eqb-true count 0 e)

  reads_by : (room : List ℕ) (t : Bool) → eqb count 0 ≡ t → read_by u (not t) room ≡ read_by u true room
  reads_by room true e =
      let at = wrap_of s u.head.state.address in
      let low = below s u.head.state.address in
      let read = read_alike (buffer_of u) s (bare_of e) at 0 room low in
      let given = given_alike (buffer_of u) s (bare_of e) at room low in
      rw (read, given)
  reads_by room false e = refl

  finds_by : (t : Bool) → eqb count 0 ≡ t → cond (not t) (cursor_in (buffer_of u) s) None ≡ cursor_in (buffer_of u) s
  finds_by true e = found_nowhere (buffer_of u) s (bare_of e) (cursor_in (buffer_of u) s) (cursor_lowest (buffer_of u) s)
  finds_by false e = refl

pub any_tells : AnyTells
any_tells n u m = record {
  none = λ e. bare_of n u m (not_false_is (eqb u.head.cursor.count 0) e);
  any = λ bare.
      ap not (eq-eqb u.head.cursor.count 0 (m.buffer.counted ∙ none_counted (size_of (size_in u)) u.words bare));
}

pub reads_alike : ReadsAlike
reads_alike n u m room = reads_by n u m room (eqb u.head.cursor.count 0) refl

pub finds_alike : FindsAlike
finds_alike n u m = finds_by n u m (eqb u.head.cursor.count 0) refl
