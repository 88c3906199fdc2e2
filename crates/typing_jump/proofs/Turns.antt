-- One step of the search, by the definitions.
use Rattle.std.specs.Prelude.{None, Option}
use Rattle.std.specs.declared.ops.ControlFlow.{ControlFlow}
use Prim.Native.Nat.{ℕ, zero, suc, ◌-◌, ◌<◌, ◌≤◌}
use native.Mathlib.Omega.{arith}
use mathlib.Core.Path.{◌≡◌, refl}
use mathlib.Core.List.{List}
use Rattle.unit_head.specs.declared.State.{State}
use Rattle.typing_jump.specs.Jump.{hop_of, jump_by, jump_from}

module _ (words : List ℕ) where
  -- the search from a state is what its step says, and then the search of one step less
  pub jump_one : (n : ℕ) (s : State) → 0 < n → (h : ControlFlow (Option ℕ) State) → h ≡ hop_of words s → jump_from words n s ≡ jump_by (λ t. jump_from words (n - 1) t) h
  unfolding jump_from
  jump_one zero s l h e = absurd (omega arith)
  jump_one (suc n) s l h e =
      let z : suc n - 1 ≡ n = omega arith in
      rw (e, z)

  pub jump_none : (n : ℕ) (s : State) → n ≤ 0 → jump_from words n s ≡ None
  unfolding jump_from
  jump_none zero s l = refl
  jump_none (suc n) s l = absurd (omega arith)
