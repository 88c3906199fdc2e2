-- Any two numbers that the contract of `khaonuat_validate` allows, and any two stores that it leaves, are equal. Assumes nothing.
use mathlib.Core.Path.{◌≡◌, sym, ap, ◌∙◌}
use mathlib.Core.List.{List}
use Prim.Native.Nat.{ℕ}
use Rattle.validator_verdict.specs.Verdict.{Tried}
use Rattle.validator_verdict.proofs.Unique.{judged_unique}
use Rattle.capi_validate.specs.Told.{verdict_number, VerdictTold}

pub one_number : (t : Tried) (image : List ℕ) (start : ℕ) (s s₁ s₂ : List ℕ) (m n : ℕ) → VerdictTold t image start s s₁ m → VerdictTold t image start s s₂ n → (m ≡ n) × (s₁ ≡ s₂)
one_number t image start s s₁ s₂ m n x y =
    let u = judged_unique t image start s s₁ s₂ x.values y.values x.judged y.judged in
    (x.told ∙ ap verdict_number u.0 ∙ sym y.told, u.1)
