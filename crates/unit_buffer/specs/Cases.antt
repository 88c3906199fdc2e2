-- Worked cases of reading: bad parity at address 1, and the cursor at address 3.
use Rattle.std.specs.Prelude.{◌≡◌, refl, true, false, List, [], ◌∷◌, ℕ}
use Rattle.std.specs.Int.Count.{ones, ones_in}
use Rattle.ground_location.specs.Location.{word_of}
use Rattle.ground_setup.specs.declared.Size.TheVariants.{K4}
use Rattle.unit_cursor.specs.Cursor.{Buffer, buffer, cursors}
use Rattle.unit_buffer.specs.Buffer.{given_from, read_from, room_read, read_of}

-- 11, 22 with bad parity, 33, 44 with the cursor, 55
abbrev five : Buffer
five = buffer (word_of 0x11 false true ∷ 0x0422 ∷ word_of 0x33 false true ∷ word_of 0x44 true true ∷ word_of 0x55 false true ∷ []) (cursors 1)

abbrev room : List ℕ
room = 9 ∷ 9 ∷ 9 ∷ []

pub record ReadCases : Type 0 where
  -- "A read that meets bad parity gives that byte, steps past it and ends with .. Data Check"; "bytes not given stay"
  pub bad_parity_lem : read_of five K4 false 0 room ≡ record { count = 2; address = 2; good = false }
  pub bad_parity_given : room_read five K4 false 0 room ≡ 0x11 ∷ 0x22 ∷ 9 ∷ []
  -- Read Cursor gives 1A in place of the cursor's byte and stays at it (000 p.20)
  pub cursor : read_of five K4 true 2 room ≡ record { count = 2; address = 3; good = true }
  pub cursor_given : room_read five K4 true 2 room ≡ 0x33 ∷ 0x1A ∷ 9 ∷ []

pub read_cases : ReadCases
unfolding read_from given_from word_of ones ones_in
read_cases = record { bad_parity_lem = refl; bad_parity_given = refl; cursor = refl; cursor_given = refl }
