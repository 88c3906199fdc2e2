-- Worked cases of what a run is told as: why it ended in the number, steps before items in what was lent; a refusal leaves that as it was.
use Rattle.std.specs.Prelude.{◌≡◌, refl, List, [], ◌∷◌, ℕ}
use Rattle.unit_head.specs.Head.{DisplayUnit}
use Rattle.console_run.specs.Pair.{RunValues}
use Rattle.capi_packed.specs.Packed.{refused_number}
use Rattle.capi_run.specs.Running.{run_call, ran_call}

-- three steps to an end order, one item listed
pub ran_told : (u : DisplayUnit) (list : List ℕ)
    → ran_call (record { unit = u; answer = RunValues.ran 3 6 1; list = list }) (9 ∷ 9 ∷ []) ≡ run_call 6 list (3 ∷ 1 ∷ [])
ran_told u list = refl

-- a sight above 2
pub refused_told : (u : DisplayUnit) (list : List ℕ)
    → ran_call (record { unit = u; answer = RunValues.refused 8; list = list }) (9 ∷ 9 ∷ []) ≡ run_call (refused_number 8) list (9 ∷ 9 ∷ [])
refused_told u list = refl
