-- The searches through a buffer's words that the keyboard makes (C-13; 000 p.21 and 36): for the cursor, and for the order of a field.
use Rattle.std.specs.Prelude.{ℕ, zero, suc, ◌+◌, cond, List, None, Option, Some}
use Rattle.ground_setup.specs.Setup.{size_of, wrap_of}
use Rattle.ground_setup.specs.declared.Size.{Size}
use Rattle.unit_cursor.specs.Cursor.{Buffer, cursor_here}
use Rattle.typing_signs.specs.Signs.{back_of, even_of, order_at}

-- the cursor: "where several are set, the lowest address counts (house)", looked for in the n locations from a on
unfoldable pub cursor_from : Buffer → ℕ → ℕ → Option ℕ
cursor_from b zero a = None
cursor_from b (suc n) a = cond (cursor_here b a) (Some a) (cursor_from b n (a + 1))

unfoldable pub cursor_in : Buffer → Size → Option ℕ
cursor_in b s = cursor_from b (size_of s) 0

-- the first order among n addresses, from A on back by two
unfoldable pub order_from : List ℕ → Size → ℕ → ℕ → Option ℕ
order_from words s zero a = None
order_from words s (suc n) a = cond (order_at words s a) (Some (wrap_of s a)) (order_from words s n (back_of s a 2))

-- the order that a location stands behind: the nearest before its own pair, round the buffer
unfoldable pub order_behind : List ℕ → Size → ℕ → Option ℕ
order_behind words s a = order_from words s (size_of s) (back_of s (even_of s a) 2)
