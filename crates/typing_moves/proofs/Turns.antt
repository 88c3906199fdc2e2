-- One turn of a move, by the definitions.
use Rattle.std.specs.Prelude.{None, Option}
use Prim.Native.Nat.{ℕ, zero, suc, ◌-◌, ◌<◌, ◌≤◌}
use native.Mathlib.Omega.{arith}
use mathlib.Core.Path.{◌≡◌, refl}
use mathlib.Core.List.{List}
use Rattle.ground_setup.specs.declared.Size.{Size}
use Rattle.typing_moves.specs.declared.Direction.{Direction}
use Rattle.typing_moves.specs.Moves.{onward_of, rest_by, rest_from}

module _ (words : List ℕ) (s : Size) (d : Direction) where
  pub rest_one : (n a : ℕ) → 0 < n → (p : Option ℕ) → p ≡ onward_of words s d a → rest_from words s d n a ≡ rest_by (λ b. rest_from words s d (n - 1) b) a p
  unfolding rest_from
  rest_one zero a h p e = absurd (omega arith)
  rest_one (suc n) a h p e =
      let z : suc n - 1 ≡ n = omega arith in
      rw (e, z)

  pub rest_none : (n a : ℕ) → n ≤ 0 → rest_from words s d n a ≡ None
  unfolding rest_from
  rest_none zero a h = refl
  rest_none (suc n) a h = absurd (omega arith)
