-- Worked cases of the cursor's coming and going in the pair of addresses 0 and 1.
use Rattle.std.specs.Prelude.{◌≡◌, refl, true, false, [], ◌∷◌}
use Rattle.std.specs.Int.Count.{ones, ones_in}
use Rattle.ground_location.specs.Location.{word_of}
use Rattle.unit_cursor.specs.Cursor.{Buffer, buffer, cursors, recounted, cursor_here, bare_at, set_here, cleared_here}

-- 07 with the cursor, and 08
abbrev pair : Buffer
pair = buffer (word_of 0x07 true true ∷ word_of 0x08 false true ∷ []) (cursors 1)

pub record CursorCases : Type 0 where
  -- one location of a pair has C (000 p.21, note 3)
  pub moved : set_here 1 pair ≡ buffer (word_of 0x07 false true ∷ word_of 0x08 true true ∷ []) (cursors 1)
  pub cleared : cleared_here 0 pair ≡ buffer (word_of 0x07 false true ∷ word_of 0x08 false true ∷ []) (cursors 0)
  pub here : cursor_here pair 0 ≡ true
  pub not_here : cursor_here pair 1 ≡ false

pub cursor_cases : CursorCases
unfolding recounted bare_at set_here cleared_here word_of ones ones_in
cursor_cases = record { moved = refl; cleared = refl; here = refl; not_here = refl }
