-- What the validator answers and leaves (01, "The validator").
use Rattle.std.specs.Prelude.{◌≡◌, cond, List, ◌++◌, ℕ, ◌%◌, drop, replicate, eqb, ltb, leb, Err, Ok, Result}
use Rattle.ground_refusals.specs.declared.Refusal.{Refusal}
use Rattle.ground_refusals.specs.Refusals.{refusal_number}
use Rattle.ground_setup.specs.Setup.{size_of, sized_of, setup}
use Rattle.ground_setup.specs.declared.Setup.{Setup}
use Rattle.ground_setup.specs.declared.Size.{Size}
use Rattle.ground_look.specs.Look.{fault_number}
use Rattle.ground_look.specs.declared.Fault.{Fault}
use Rattle.validator_walks.specs.declared.Verdict.{Verdict}
use Rattle.validator_walks.specs.declared.Verdict.TheVariants as verdict
use Rattle.validator_walks.specs.Walks.{Right}
use Rattle.validator_store.specs.Layout.{room_of}

-- an answer in 01's numbers: "passed, with the number of different places any walk reaches; fault, with number, address and fewest
-- steps before it; or refused"
pub data VerdictValues : Type 0 where
  passed : ℕ → VerdictValues
  fault : ℕ → ℕ → ℕ → VerdictValues
  refused : ℕ → VerdictValues

abbrev pub verdict_values : Result Verdict Refusal → VerdictValues
verdict_values (Ok (verdict.Passed c)) = VerdictValues.passed c
verdict_values (Ok (verdict.Fault f a k)) = VerdictValues.fault (fault_number f) a k
verdict_values (Err r) = VerdictValues.refused (refusal_number r)

-- whether an image is refused, and by which number, or the size of its buffer
pub data Tried : Type 0 where
  no : ℕ → Tried
  fine : Size → Tried

-- "Tried .. 1 to 5 for images": 5 for a store of room bytes
abbrev pub tried_store : Size → ℕ → Tried
tried_store size room = cond (ltb room (room_of size)) (Tried.no 5) (Tried.fine size)

-- 2 to 4 before it, for an image of len bytes and a start in a buffer of a size
abbrev pub tried_in : Size → ℕ → ℕ → ℕ → Tried
tried_in size len start room =
    cond (ltb (size_of size) len) (Tried.no 2)
    (cond (eqb (start % 2) 1) (Tried.no 3)
    (cond (leb (size_of size) start) (Tried.no 4) (tried_store size room)))

-- and 1 before those: the number has to be a size
abbrev pub tried_by : Result Size Refusal → ℕ → ℕ → ℕ → Tried
tried_by (Ok size) len start room = tried_in size len start room
tried_by (Err refusal) len start room = Tried.no (refusal_number refusal)

abbrev pub tried_of : ℕ → ℕ → ℕ → ℕ → Tried
tried_of size len start room = tried_by (sized_of size) len start room

-- passed or fault as the walks have it
abbrev pub RightValues : List ℕ → Setup → ℕ → VerdictValues → Type 0
RightValues image su start (VerdictValues.passed c) = Right image su start (verdict.Passed c)
RightValues image su start (VerdictValues.fault n a k) = (f : Fault) × (fault_number f ≡ n) × Right image su start (verdict.Fault f a k)
RightValues image su start (VerdictValues.refused n) = ⊥

-- what is answered for an image, and left of a store s: "A refusal returns its number only and alters nothing"; "after passed or fault
-- its first 32,768 are zero and the rest as before"
abbrev pub Judged : Tried → List ℕ → ℕ → List ℕ → List ℕ → VerdictValues → Type 0
Judged (Tried.no n) image start s s' v = (v ≡ VerdictValues.refused n) × (s' ≡ s)
Judged (Tried.fine size) image start s s' v =
    RightValues image (setup size) start v × (s' ≡ replicate (room_of size) 0 ++ drop (room_of size) s)
