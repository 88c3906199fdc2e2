-- Which refusal an image meets first, as one table over the definitions (01: "Tried .. 1 to 5 for images").
use Rattle.std.specs.Prelude.{List, [], ◌∷◌, ℕ}
use Rattle.ground_setup.specs.declared.Size.TheVariants.{K4, K8}
use Rattle.validator_verdict.specs.Verdict.{Tried}

-- a size, the image's length, the start, the store's length, and what they are tried to
pub record TriedCase : Type 0 where
  pub size : ℕ
  pub long : ℕ
  pub start : ℕ
  pub room : ℕ
  pub tried : Tried

abbrev tried_case : ℕ → ℕ → ℕ → ℕ → Tried → TriedCase
tried_case size long start room tried = record { size = size; long = long; start = start; room = room; tried = tried }

abbrev pub tried_cases : List TriedCase
tried_cases =
    -- each number is told before the higher ones
    tried_case 4097 8193 8193 0 (Tried.no 1)
    ∷ tried_case 0 0 0 0 (Tried.no 1)
    ∷ tried_case 4096 4097 4097 0 (Tried.no 2)
    ∷ tried_case 4096 4096 4097 0 (Tried.no 3)
    ∷ tried_case 4096 4096 4096 0 (Tried.no 4)
    ∷ tried_case 8192 8192 8192 32767 (Tried.no 4)
    ∷ tried_case 4096 4096 4094 32767 (Tried.no 5)
    -- and where none is due, the image is looked at
    ∷ tried_case 4096 4096 4094 32768 (Tried.fine K4)
    ∷ tried_case 8192 8192 8190 32768 (Tried.fine K8)
    ∷ tried_case 8192 0 4096 32769 (Tried.fine K8)
    ∷ []
