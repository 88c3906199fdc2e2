-- Walks, and what a right answer on all of them is (01, "The validator"), for faults and places of any kind.
use Rattle.std.specs.Prelude.{◌≡◌, ◌⊎◌, List, ℕ, zero, suc, ◌≤◌, ◌<◌}
use Rattle.ground_setup.specs.declared.Setup.{Setup}
use Rattle.ground_orders.specs.declared.Mode.TheVariants.{Idle}
use Rattle.ground_look.specs.Look.{fault_number}
use Rattle.ground_look.specs.declared.Fault.{Fault}
use Rattle.validator_walks.specs.declared.Verdict.{Verdict}
use Rattle.validator_walks.specs.declared.Verdict.TheVariants as verdict
use Rattle.validator_walks.specs.Places.{place, place_of, places_of}
use Rattle.validator_walks.specs.Steps.{Step, Leads, step_of}

-- c of the numbers below n have the property
pub data Counted (P : ℕ → Type 0) : ℕ → ℕ → Type 0 where
  none : Counted P zero zero
  take : {n c : ℕ} → P n → Counted P n c → Counted P (suc n) (suc c)
  skip : {n c : ℕ} → (P n → ⊥) → Counted P n c → Counted P (suc n) c

-- what may be answered of all walks: passed, with how many places, or a fault, with an address and how many steps
pub data Answer (F : Type 0) : Type 0 where
  passed : ℕ → Answer F
  fault : F → ℕ → ℕ → Answer F

module _ {F X : Type 0} (step : X → Step F X) (start : X) where
  -- some walk from the start is at p after k steps
  abbrev pub Reach : ℕ → X → Type 0
  Reach zero p = p ≡ start
  Reach (suc k) p = (q : X) × Reach k q × Leads (step q) p

  -- some walk, however long, reaches p
  abbrev pub Reached : X → Type 0
  Reached p = (k : ℕ) × Reach k p

  -- the places are numbered from 0 on
  module _ (numbered : ℕ → X) (places : ℕ) where
    -- "passed, with the number of different places any walk reaches": no walk, however long, meets a fault. The numbers below `places` are
    -- counted, one for each place: of an image every place of the buffer has its number (`place_of_number`) and every number is that of
    -- its place alone (`number_of_place`, proofs/Numbering)
    pub record Clean (c : ℕ) : Type 0 where
      pub sound : (k : ℕ) (p : X) (f : F) → Reach k p → step p ≡ Step.faulty f → ⊥
      pub count : Counted (λ i. Reached (numbered i)) places c

  -- the faults have numbers, and the places addresses
  module _ (number : F → ℕ) (address : X → ℕ) where
    -- "fault, with number, address and fewest steps before it": fault f is met at a after k steps, none is met after fewer, and
    -- none after k steps at a lower address, or at a with a lower number
    pub record First (f : F) (a k : ℕ) : Type 0 where
      pub met : X
      pub here : Reach k met
      pub faulty : step met ≡ Step.faulty f
      pub at : address met ≡ a
      pub earlier : (j : ℕ) (p : X) (g : F) → j < k → Reach j p → step p ≡ Step.faulty g → ⊥
      pub lowest : (p : X) (g : F) → Reach k p → step p ≡ Step.faulty g → (a < address p) ⊎ ((a ≡ address p) × (number f ≤ number g))

  -- what a right answer is
  abbrev pub RightOf : (F → ℕ) → (ℕ → X) → ℕ → (X → ℕ) → Answer F → Type 0
  RightOf number numbered places address (Answer.passed c) = Clean numbered places c
  RightOf number numbered places address (Answer.fault f a k) = First number address f a k

-- a verdict as an answer
abbrev pub answer_of : Verdict → Answer Fault
answer_of (verdict.Passed c) = Answer.passed c
answer_of (verdict.Fault f a k) = Answer.fault f a k

-- a right answer on an image: "A walk starts idle at the start address."
abbrev pub Right : List ℕ → Setup → ℕ → Verdict → Type 0
Right image su start v =
    RightOf (step_of image su) (place start Idle) fault_number (place_of su.size) (places_of su.size) (λ p. p.at) (answer_of v)
