-- 01, "Measured examples": the verdicts marked *, one row each. "start 0, size 4,096 unless said".
use Rattle.std.specs.Prelude.{◌≡◌, List, [], ◌∷◌, ℕ}
use Rattle.ground_setup.specs.Setup.{setup}
use Rattle.ground_setup.specs.declared.Size.{Size}
use Rattle.ground_setup.specs.declared.Size.TheVariants.{K4, K8}
use Rattle.ground_look.specs.Look.{fault_number}
use Rattle.ground_look.specs.declared.Fault.TheVariants.{Unwritten, OddTarget, FarTarget, OrderForY}
use Rattle.validator_walks.specs.declared.Verdict.{Verdict}
use Rattle.validator_walks.specs.declared.Verdict.TheVariants as verdict
use Rattle.validator_walks.specs.Walks.{Answer, passed, fault, Right}

-- `answer` is 01's, with the fault's number, and `told` the verdict, with the fault
pub record StarredCase : Type 0 where
  pub size : Size
  pub image : List ℕ
  pub answer : Answer ℕ
  pub told : Verdict

abbrev starred_case : Size → List ℕ → Answer ℕ → Verdict → StarredCase
starred_case s i a t = record { size = s; image = i; answer = a; told = t }

-- [4-byte no-op] is C0, [transfer] FF, [no-detect] FD, [end] 81, [vector] 02 (000 p.24, Table 4)
abbrev pub starred_cases : List StarredCase
starred_cases =
    starred_case K4 [] (fault 1 0 0) (verdict.Fault Unwritten 0 0)
    ∷ starred_case K4 (0 ∷ 0 ∷ 0 ∷ 0 ∷ 0 ∷ 0 ∷ []) (fault 1 6 3) (verdict.Fault Unwritten 6 3)
    ∷ starred_case K4 (0x2A ∷ 0xC0 ∷ []) (fault 1 4 1) (verdict.Fault Unwritten 4 1)
    ∷ starred_case K4 (0x2A ∷ 0xFF ∷ 0x00 ∷ 0x00 ∷ []) (passed 1) (verdict.Passed 1)
    ∷ starred_case K4 (0x2A ∷ 0xFF ∷ 0x00 ∷ 0x03 ∷ []) (fault 3 0 0) (verdict.Fault OddTarget 0 0)
    ∷ starred_case K4 (0x2A ∷ 0xFF ∷ 0xFF ∷ 0xFF ∷ []) (fault 3 0 0) (verdict.Fault OddTarget 0 0)
    ∷ starred_case K4 (0x2A ∷ 0xFF ∷ 0x10 ∷ 0x00 ∷ []) (fault 4 0 0) (verdict.Fault FarTarget 0 0)
    ∷ starred_case K8 (0x2A ∷ 0xFF ∷ 0x10 ∷ 0x00 ∷ []) (fault 1 4096 1) (verdict.Fault Unwritten 4096 1)
    ∷ starred_case K4 (0x2A ∷ 0xFD ∷ 0x00 ∷ 0x00 ∷ 0x2A ∷ 0x81 ∷ []) (passed 2) (verdict.Passed 2)
    ∷ starred_case K4 (0x2A ∷ 0x02 ∷ 0x00 ∷ 0x00 ∷ 0x2A ∷ 0x81 ∷ []) (fault 5 2 1) (verdict.Fault OrderForY 2 1)
    ∷ starred_case K4 (0x00 ∷ 0x2A ∷ 0x2A ∷ 0x81 ∷ []) (passed 2) (verdict.Passed 2)
    ∷ []

-- a verdict in 01's numbers
abbrev pub in_numbers : Verdict → Answer ℕ
in_numbers (verdict.Passed c) = passed c
in_numbers (verdict.Fault f a k) = fault (fault_number f) a k

-- every row's verdict is right, and its answer in numbers is 01's
abbrev pub AllRight : List StarredCase → Type 0
AllRight [] = Unit {0}
AllRight (c ∷ cs) = Right c.image (setup c.size) 0 c.told × (in_numbers c.told ≡ c.answer) × AllRight cs
