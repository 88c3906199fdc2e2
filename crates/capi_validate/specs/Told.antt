-- The validator's answer in one number, from the top: a byte that says which, the fault, two bytes of its address, and the places or the steps.
use Rattle.std.specs.Prelude.{◌≡◌, List, ℕ, ◌+◌, ◌*◌, ◌%◌}
use Rattle.capi_packed.specs.Packed.{refused_number}
use Rattle.validator_verdict.specs.Verdict.{VerdictValues, Tried, Judged}

abbrev pub verdict_number : VerdictValues → ℕ
verdict_number (VerdictValues.passed c) = c % 0x100000000
verdict_number (VerdictValues.fault n a k) = 0x100000000000000 + n * 0x1000000000000 + a % 0x10000 * 0x100000000 + k % 0x100000000
verdict_number (VerdictValues.refused n) = refused_number n

-- the number of what the validator answers; the store as it leaves it
pub record VerdictTold (t : Tried) (image : List ℕ) (start : ℕ) (s s' : List ℕ) (number : ℕ) : Type 0 where
  pub values : VerdictValues
  pub judged : Judged t image start s s' values
  pub told : number ≡ verdict_number values
