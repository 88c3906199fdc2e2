-- One turn of a search, by the definitions.
use Rattle.std.specs.Prelude.{None, Some}
use Prim.Native.Nat.{ℕ, zero, suc, ◌-◌, ◌<◌, ◌≤◌}
use native.Mathlib.Omega.{arith}
use mathlib.Core.Path.{◌≡◌, refl}
use mathlib.Core.Bool.{cond}
use mathlib.Core.List.{List}
use Rattle.ground_setup.specs.Setup.{wrap_of}
use Rattle.ground_setup.specs.declared.Size.{Size}
use Rattle.typing_signs.specs.Signs.{back_of, order_at}
use Rattle.typing_seek.specs.Seek.{order_from}

module _ (words : List ℕ) (s : Size) where
  -- an order is looked for at A, and then from two before it on
  pub order_one : (n a : ℕ) → 0 < n → order_from words s n a ≡ cond (order_at words s a) (Some (wrap_of s a)) (order_from words s (n - 1) (back_of s a 2))
  unfolding order_from
  order_one zero a h = absurd (omega arith)
  order_one (suc n) a h =
      let z : suc n - 1 ≡ n = omega arith in
      rw z

  pub order_none : (n a : ℕ) → n ≤ 0 → order_from words s n a ≡ None
  unfolding order_from
  order_none zero a h = refl
  order_none (suc n) a h = absurd (omega arith)
