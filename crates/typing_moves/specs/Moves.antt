-- The moves of the cursor by advance and backspace (C-13; 000 p.35 and 36; 001 4-11 to 4-15, Figures 4-5 to 4-10): one move, repeated while
-- it lands on a new line.
use Rattle.std.specs.Prelude.{ℕ, zero, suc, cond, List, None, Option, Some}
use Rattle.ground_setup.specs.Setup.{size_of, ahead_of}
use Rattle.ground_setup.specs.declared.Size.{Size}
use Rattle.typing_signs.specs.Signs.{back_of, order_at, line_at}
use Rattle.typing_moves.specs.declared.Direction.{Direction}
use Rattle.typing_moves.specs.declared.Direction.TheVariants.{Forward, Backward}

-- the location to, unless an order stands at an address
abbrev pub free_of : List ℕ → Size → ℕ → ℕ → Option ℕ
free_of words s order to = cond (order_at words s order) None (Some to)

-- one move from A. Forward: before a mode code the cursor stays where it is (Figure 4-7). Backward: at the field's first location, which
-- stands behind the mode code, it stays (Figure 4-10)
abbrev pub move_of : List ℕ → Size → Direction → ℕ → Option ℕ
move_of words s Forward a = free_of words s (ahead_of s a 1) (ahead_of s a 1)
move_of words s Backward a = free_of words s (back_of s a 2) (back_of s a 1)

-- a cursor that has come to A goes on from a new line (Figures 4-6 and 4-9), and rests on anything else
abbrev pub onward_of : List ℕ → Size → Direction → ℕ → Option ℕ
onward_of words s d a = cond (line_at words s a) (move_of words s d a) None

abbrev pub rest_by : (ℕ → Option ℕ) → ℕ → Option ℕ → Option ℕ
rest_by more a None = Some a
rest_by more a (Some b) = more b

-- where it rests, in at most n moves
unfoldable pub rest_from : List ℕ → Size → Direction → ℕ → ℕ → Option ℕ
rest_from words s d zero a = None
rest_from words s d (suc n) a = rest_by (λ b. rest_from words s d n b) a (onward_of words s d a)

abbrev pub goes_by : (ℕ → Option ℕ) → Option ℕ → Option ℕ
goes_by rest None = None
goes_by rest (Some a) = rest a

-- where the cursor goes from A, nowhere where it stays
unfoldable pub goes_to : List ℕ → Size → Direction → ℕ → Option ℕ
goes_to words s d a = goes_by (λ b. rest_from words s d (size_of s) b) (move_of words s d a)
