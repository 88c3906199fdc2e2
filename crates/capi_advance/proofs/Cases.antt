-- Worked cases of what advancing is told as: why it ended in the number; the steps, then the address, X and Y; a refusal leaves them as they were.
use Rattle.std.specs.Prelude.{◌≡◌, refl, [], ◌∷◌}
use Rattle.unit_advance.specs.Advance.{AdvanceValues}
use Rattle.capi_packed.specs.Packed.{refused_number}
use Rattle.capi_advance.specs.Cases.{arrived}
use Rattle.capi_advance.specs.Advancing.{advance_call, advanced_call}

-- five steps, and the sights were used up
pub advanced_told : advanced_call (record { unit = arrived; answer = AdvanceValues.advanced 5 0 }) (9 ∷ 9 ∷ 9 ∷ 9 ∷ []) ≡ advance_call 0 (5 ∷ 18 ∷ 700 ∷ 300 ∷ [])
advanced_told = refl

-- a sight above 2
pub refused_told : advanced_call (record { unit = arrived; answer = AdvanceValues.refused 8 }) (9 ∷ 9 ∷ 9 ∷ 9 ∷ []) ≡ advance_call (refused_number 8) (9 ∷ 9 ∷ 9 ∷ 9 ∷ [])
refused_told = refl
