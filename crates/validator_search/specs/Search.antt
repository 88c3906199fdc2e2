-- What a search of an image answers and leaves.
use Rattle.std.specs.Prelude.{◌≡◌, Bool, true, false, ◌&&◌, List, ◌++◌, ℕ, drop, replicate, ltb, leb, None, Option, Some}
use Rattle.ground_setup.specs.declared.Setup.{Setup}
use Rattle.ground_look.specs.Look.{fault_number}
use Rattle.validator_walks.specs.declared.Verdict.{Verdict}
use Rattle.validator_walks.specs.Places.{places_of, address_of}
use Rattle.validator_walks.specs.Steps.{way_of, as_step}
use Rattle.validator_walks.specs.Walks.{RightOf, answer_of}
use Rattle.validator_store.specs.Layout.{room_of}

-- a right answer on the places of an image by their numbers
abbrev pub RightBy : List ℕ → Setup → ℕ → Verdict → Type 0
RightBy image su start v =
    RightOf (λ n. as_step (way_of image su n)) start fault_number (λ i. i) (places_of su.size) (address_of su.size) (answer_of v)

-- the start is a place, and the store has its room
abbrev pub fitting : Setup → ℕ → ℕ → Bool
fitting su start room = ltb start (places_of su.size) && leb (room_of su.size) room

-- what a search answers and leaves of the store: the right answer and the store's room made zero, or nothing changed
abbrev pub SearchAnswered : Bool → List ℕ → Setup → ℕ → List ℕ → List ℕ → Option Verdict → Type 0
SearchAnswered true image su start s s' (Some v) = RightBy image su start v × (s' ≡ replicate (room_of su.size) 0 ++ drop (room_of su.size) s)
SearchAnswered true image su start s s' None = ⊥
SearchAnswered false image su start s s' r = (r ≡ None) × (s' ≡ s)
