-- Demand 1 shown for the validator: an image that is refused leaves the working store. Assumes nothing.
use Prim.Native.Nat.{ℕ}
use native.Mathlib.Omega.{arith}
use mathlib.Core.Path.{◌≡◌}
use Rattle.validator_verdict.specs.Verdict.{VerdictValues, Tried}
use Rattle.theorem_refusals.specs.Refusing.{ImageRefused}

pub image_refused : ImageRefused
image_refused (Tried.no m) image start n store left v j e = j.1
image_refused (Tried.fine size) image start n store left (VerdictValues.passed c) j e = let z : ◌≡◌ {A = ℕ} 0 1 = cc in absurd (omega arith)
image_refused (Tried.fine size) image start n store left (VerdictValues.fault m a k) j e = let z : ◌≡◌ {A = ℕ} 0 1 = cc in absurd (omega arith)
image_refused (Tried.fine size) image start n store left (VerdictValues.refused m) j e = absurd j.0
