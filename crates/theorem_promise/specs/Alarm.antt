-- A fault that the validator names is no false alarm: some walk, which one can follow place by place, meets it.
use Rattle.std.specs.Prelude.{ℕ, ◌≡◌, List, [], ◌∷◌, length}
use Rattle.ground_orders.specs.declared.Mode.TheVariants.{Idle}
use Rattle.ground_look.specs.Look.{fault_number}
use Rattle.ground_look.specs.declared.Fault.{Fault}
use Rattle.ground_setup.specs.Setup.{size_of, setup}
use Rattle.ground_setup.specs.declared.Size.{Size}
use Rattle.validator_walks.specs.declared.Place.{Place}
use Rattle.validator_walks.specs.Places.{place}
use Rattle.validator_walks.specs.Steps.{Step, Leads, step_of}
use Rattle.validator_verdict.specs.Verdict.{VerdictValues, tried_of, Judged}

-- from p through the places ps, one after the other, to q; where a Transfer On No Detect stands, the next place is the way chosen
abbrev pub Walk : {F : Type 0} → (Place → Step F Place) → Place → List Place → Place → Type 0
Walk step p [] q = q ≡ p
Walk step p (r ∷ rs) q = Leads (step p) r × Walk step r rs q

-- a walk of k steps from the start to a place at address a whose step is the fault of number n
pub record Alarm (image : List ℕ) (size start n a k : ℕ) : Type 0 where
  pub buffer : Size
  pub sized : size ≡ size_of buffer
  pub places : List Place
  pub last : Place
  pub steps : length places ≡ k
  pub walk : Walk (step_of image (setup buffer)) (place start Idle) places last
  pub at : last.at ≡ a
  pub fault : Fault
  pub number : fault_number fault ≡ n
  pub faulty : step_of image (setup buffer) last ≡ Step.faulty fault

-- where the validator's own answer is a fault
abbrev pub NoFalseAlarm : Type 0
NoFalseAlarm =
    (image : List ℕ) (size start n a k : ℕ) (store left : List ℕ)
    → Judged (tried_of size (length image) start (length store)) image start store left (VerdictValues.fault n a k)
    → Alarm image size start n a k
