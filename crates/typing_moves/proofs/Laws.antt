-- Where the cursor rests: on a location that no order begins at or ends at, and on a new line only where a mode code, or the field's
-- beginning, keeps it there. Assumes nothing.
use Rattle.std.specs.Prelude.{None, Option, Some}
use Prim.Native.Nat.{ℕ, zero, suc, ◌+◌, ◌-◌}
use native.Mathlib.Omega.{arith}
use native.Mathlib.Nat.{add-mod_right}
use mathlib.Core.Path.{◌≡◌, refl, sym, ap, ◌∙◌}
use mathlib.Core.Bool.{Bool, true, false, cond}
use mathlib.Core.List.{List}
use Rattle.ground_setup.specs.Setup.{size_of, wrap_of, ahead_of}
use Rattle.ground_setup.specs.declared.Size.{Size}
use Rattle.ground_setup.proofs.Laws.{sane, wrap_sum}
use Rattle.typing_signs.specs.Signs.{back_of, order_at, line_at}
use Rattle.typing_moves.specs.declared.Direction.{Direction}
use Rattle.typing_moves.specs.declared.Direction.TheVariants.{Forward, Backward}
use Rattle.typing_moves.specs.Moves.{move_of, onward_of, rest_by, rest_from, goes_by, goes_to}

module _ (words : List ℕ) (s : Size) (d : Direction) where
  -- a location that a move leads to
  pub record Arrived (to : ℕ) : Type 0 where
    pub from : ℕ
    pub move : move_of words s d from ≡ Some to

  -- where it rests: a move leads there, and none leads on
  pub record Rests (to : ℕ) : Type 0 where
    pub reached : Arrived to
    pub at_rest : onward_of words s d to ≡ None

  onward_move : (a b : ℕ) (t : Bool) → cond t (move_of words s d a) None ≡ Some b → move_of words s d a ≡ Some b
  onward_move a b true e = e
  onward_move a b false e = absurd (let z : ◌≡◌ {A = ℕ} 0 1 = cc in omega arith)

  by_onward : (n a to : ℕ) → Arrived a → ((b : ℕ) → Arrived b → rest_from words s d n b ≡ Some to → Rests to) → (p : Option ℕ) → onward_of words s d a ≡ p
      → rest_by (λ b. rest_from words s d n b) a p ≡ Some to → Rests to
  by_onward n a to r more None e h =
      let same : a ≡ to = cc in
      rw (sym same) (record { reached = r; at_rest = e })
  by_onward n a to r more (Some b) e h = more b (record { from = a; move = onward_move a b (line_at words s a) e }) h

  rest_rests : (n a to : ℕ) → Arrived a → rest_from words s d n a ≡ Some to → Rests to
  unfolding rest_from
  rest_rests zero a to r h = absurd (let z : ◌≡◌ {A = ℕ} 0 1 = cc in omega arith)
  rest_rests (suc n) a to r h = by_onward n a to r (λ b q e. rest_rests n b to q e) (onward_of words s d a) refl h

  by_move : (a to : ℕ) (p : Option ℕ) → move_of words s d a ≡ p → goes_by (λ b. rest_from words s d (size_of s) b) p ≡ Some to → Rests to
  by_move a to None e h = absurd (let z : ◌≡◌ {A = ℕ} 0 1 = cc in omega arith)
  by_move a to (Some b) e h = rest_rests (size_of s) b to (record { from = a; move = e }) h

  -- where the cursor goes it rests
  pub goes_rests : (a to : ℕ) → goes_to words s d a ≡ Some to → Rests to
  unfolding goes_to
  goes_rests a to h = by_move a to (move_of words s d a) refl h

module _ (words : List ℕ) (s : Size) where
  free_by : (order to at : ℕ) (t : Bool) → order_at words s order ≡ t → cond t None (Some to) ≡ Some at → (order_at words s order ≡ false) × (to ≡ at)
  free_by order to at true o e = absurd (let z : ◌≡◌ {A = ℕ} 0 1 = cc in omega arith)
  free_by order to at false o e = (o, cc)

  -- advance never rests on the first byte of an order
  pub forward_free : (to : ℕ) → Rests words s Forward to → order_at words s to ≡ false
  forward_free to r =
      let from = r.reached.from in
      let f = free_by (ahead_of s from 1) (ahead_of s from 1) to (order_at words s (ahead_of s from 1)) refl r.reached.move in
      rw (← f.1) f.0

  two_back : (a : ℕ) → back_of s (back_of s a 1) 1 ≡ back_of s a 2
  two_back a =
      let n = size_of s in
      let whole : wrap_of s a + (n - 1) + (n - 1) ≡ wrap_of s a + (n - 2) + n = omega (arith, sane s) in
      wrap_sum s (back_of s a 1) (n - 1) ∙ wrap_sum s (wrap_of s a + (n - 1)) (n - 1) ∙ ap (wrap_of s) whole ∙ add-mod_right (wrap_of s a + (n - 2)) n

  -- backspace never rests on a mode code, which stands behind the first byte of an order
  pub backward_free : (to : ℕ) → Rests words s Backward to → order_at words s (back_of s to 1) ≡ false
  backward_free to r =
      let from = r.reached.from in
      let f = free_by (back_of s from 2) (back_of s from 1) to (order_at words s (back_of s from 2)) refl r.reached.move in
      rw (← f.1, two_back from) f.0
