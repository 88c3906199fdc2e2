-- Every store leaves a well-made buffer, by the law of one store; and what a fresh buffer and a dump are. Assumes nothing.
use Prim.Native.Nat.{ℕ, zero, suc, ◌+◌, ◌-◌, ◌%◌, ◌≤◌, ◌<◌}
use native.Mathlib.Omega.{arith}
use mathlib.Core.Path.{◌≡◌, refl, sym, ap, ◌∙◌}
use mathlib.Core.Bool.{Bool, true, false, cond, ◌&&◌}
use mathlib.Core.List.{List, [], ◌∷◌, ◌++◌}
use lib.Dec.{eqb}
use lib.ListN.{length, get_or, replicate, length-set, length-append, length-replicate, get_or-replicate}
use lib.Seq.{get_or-set_other}
use borrow.Author.Tests.{eqb-true}
use Rattle.ground_location.specs.Location.{data_of, written_of, cursor_of, proper_of, good_of, word_of, fresh_word}
use Rattle.ground_location.proofs.Laws.{proper_stored}
use Rattle.ground_setup.specs.Setup.{size_of, wrap_of, ahead_of}
use Rattle.ground_setup.specs.declared.Size.{Size}
use Rattle.ground_setup.proofs.Laws.{sane, below}
use Rattle.unit_cursor.specs.Cursor.{Buffer, buffer, cursors, cursors_in, recounted, stored, cursor_here, cursor_set, marked_at, other_of, bare_at, set_here, cleared_here}
use Rattle.unit_cursor.proofs.Laws.{count_after_one_store, none_counted}
use Rattle.unit_buffer.specs.Buffer.{written_from, found_at, reads_on, read_from}
use Rattle.unit_buffer.specs.declared.Read.{Read}
use Rattle.unit_loading.specs.Loading.{all_proper, dump_words}
use Rattle.unit_loading.proofs.Dumps.{dump_fits}
use Rattle.typing_keys.specs.Keys.{cursor_moved, character_stored}
use Rattle.theorem_roundtrips.specs.RoundTrips.{Bytes}
use Rattle.ground_words.proofs.Laws.{either_way, stored_location}
use Rattle.theorem_roundtrips.proofs.Images.{fresh_at}
use Rattle.theorem_wellmade.specs.WellMade.{BufferMade}

both_left : (a b : Bool) → (a && b) ≡ true → a ≡ true
both_left true b e = refl
both_left false b e = e

both_right : (a b : Bool) → (a && b) ≡ true → b ≡ true
both_right true b e = e
both_right false b e = let z : ◌≡◌ {A = ℕ} 0 1 = cc in absurd (omega arith)

dump_proper : (words : List ℕ) (n k : ℕ) → all_proper words ≡ true → k < length words + n → proper_of (get_or (words ++ replicate n fresh_word) k 0) ≡ true
unfolding all_proper
dump_proper [] n k p l = ap proper_of (get_or-replicate n k fresh_word 0 (omega arith))
dump_proper (w ∷ words) n zero p l = both_left (proper_of w) (all_proper words) p
dump_proper (w ∷ words) n (suc k) p l = dump_proper words n k (both_right (proper_of w) (all_proper words) p) (omega arith)

module _ (s : Size) where
  pub behind_inside : (a : ℕ) (bytes : List ℕ) (b : Buffer) → a < size_of s → (written_from s a bytes b).address < size_of s
  unfolding written_from
  behind_inside a [] b h = h
  behind_inside a (x ∷ bytes) b h = behind_inside (ahead_of s a 1) bytes (stored a (word_of x false true) b) (below s (wrap_of s a + 1))

  -- the address behind a read
  pub read_inside : (b : Buffer) (seek : Bool) (a n : ℕ) (room : List ℕ) → a < size_of s → (read_from b s seek a n room).address < size_of s
  unfolding read_from
  read_inside b seek a n [] h = h
  read_inside b seek a n (x ∷ room) h =
      either_way (λ (r : Read). r.address < size_of s) (reads_on (found_at b seek a) (get_or b.words a 0)) (read_inside b seek (ahead_of s a 1) (n + 1) room (below s (wrap_of s a + 1)))
      (either_way (λ (x : ℕ). x < size_of s) (good_of (get_or b.words a 0)) h (below s (wrap_of s a + 1)))

  -- the other location of a pair is in the buffer too
  other_by : (a : ℕ) (t : Bool) → eqb (a % 2) 0 ≡ t → a < size_of s → cond t (a + 1) (a - 1) < size_of s
  other_by a true e h = omega (arith, eqb-true (a % 2) 0 e, sane s)
  other_by a false e h = omega arith

  other_inside : (a : ℕ) → a < size_of s → other_of a < size_of s
  other_inside a h = other_by a (eqb (a % 2) 0) refl h

module _ (n : ℕ) (s : Size) where
  -- a proper word stored at a location of the buffer
  stored_made : (a w : ℕ) (b : Buffer) → a < size_of s → proper_of w ≡ true → BufferMade n s b → BufferMade n s (stored a w b)
  stored_made a w b h e m = record {
    housed = m.housed;
    whole = length-set b.words a w ∙ m.whole;
    proper = λ k l. stored_location (λ (x : ℕ). proper_of x ≡ true) b.words a w k (m.proper k l) (λ q. e);
    upper = λ k u l. get_or-set_other b.words a k w 0 (λ q. omega arith) ∙ m.upper k u l;
    counted =
        ap (λ (c : ℕ). recounted c (get_or b.words a 0) w) m.counted
        ∙ sym (count_after_one_store (size_of s) a w b.words (sane s).few h (omega (arith, m.housed, m.whole)));
  }

  -- a write, however often it goes round
  pub written_made : (a : ℕ) (bytes : List ℕ) (b : Buffer) → Bytes bytes → a < size_of s → BufferMade n s b → BufferMade n s (written_from s a bytes b).buffer
  unfolding written_from
  written_made a [] b small h m = m
  written_made a (x ∷ bytes) b small h m =
      let w = word_of x false true in
      written_made (ahead_of s a 1) bytes (stored a w b) (λ i l. small (suc i) (omega arith)) (below s (wrap_of s a + 1))
      (stored_made a w b h (proper_stored x false true (small 0 (omega arith))) m)

  marked_made : (on : Bool) (a : ℕ) (b : Buffer) → a < size_of s → BufferMade n s b → BufferMade n s (marked_at on a b)
  marked_made on a b h m =
      let w = get_or b.words a 0 in
      stored_made a (cursor_set on w) b h (proper_stored (data_of w) on (written_of w) (omega arith)) m

  bare_made : (a : ℕ) (b : Buffer) → a < size_of s → BufferMade n s b → BufferMade n s (bare_at a b)
  unfolding bare_at
  bare_made a b h m = either_way (BufferMade n s) (cursor_here b a) (marked_made false a b h m) m

  pub set_made : (a : ℕ) (b : Buffer) → a < size_of s → BufferMade n s b → BufferMade n s (set_here a b)
  unfolding set_here
  set_made a b h m = marked_made true a (bare_at (other_of a) b) h (bare_made (other_of a) b (other_inside s a h) m)

  pub cleared_made : (a : ℕ) (b : Buffer) → a < size_of s → BufferMade n s b → BufferMade n s (cleared_here a b)
  unfolding cleared_here
  cleared_made a b h m = marked_made false a b h m

  -- a move of the cursor, and a character stored
  pub moved_made : (at to : ℕ) (b : Buffer) → BufferMade n s b → BufferMade n s (cursor_moved s at to b)
  unfolding cursor_moved
  moved_made at to b m =
      set_made (wrap_of s to) (cleared_here (wrap_of s at) b) (below s to) (cleared_made (wrap_of s at) b (below s at) m)

  pub typed_made : (at code to : ℕ) (b : Buffer) → code < 256 → BufferMade n s b → BufferMade n s (character_stored s at code to b)
  unfolding character_stored
  typed_made at code to b h m =
      let w = word_of code false true in
      set_made (wrap_of s to) (stored (wrap_of s at) w b) (below s to)
      (stored_made (wrap_of s at) w b (below s at) (proper_stored code false true h) m)

  pub fresh_made : size_of s ≤ n → BufferMade n s (buffer (replicate n fresh_word) (cursors 0))
  fresh_made h = record {
    housed = h;
    whole = length-replicate n fresh_word;
    proper = λ k l. ap proper_of (get_or-replicate n k fresh_word 0 l);
    upper = λ k u l. get_or-replicate n k fresh_word 0 l;
    counted =
        sym (none_counted (size_of s) (replicate n fresh_word) (λ k l. ap cursor_of (get_or-replicate n k fresh_word 0 (omega arith))));
  }

  -- the words of a dump of the buffer's length with no unused bit
  pub dump_made : (dump : List ℕ) → size_of s ≤ n → length dump ≡ size_of s → all_proper dump ≡ true → BufferMade n s (buffer (dump_words n dump) (cursors (cursors_in (size_of s) (dump_words n dump))))
  dump_made dump h e p =
      let few = n - length dump in
      let words = dump_fits n dump (omega arith) in
      record {
        housed = h;
        whole = rw words (simp (length-append, length-replicate) (omega arith));
        proper = λ k l. rw words (dump_proper dump few k p (omega arith));
        upper = λ k u l. rw words (fresh_at dump few k (omega arith) (omega arith));
        counted = refl;
      }
