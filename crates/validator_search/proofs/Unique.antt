-- What a search may answer and leave is one thing. Assumes nothing.
use Rattle.std.specs.Prelude.{None, Option, Some}
use Rattle.validator_walks.specs.declared.Verdict.{Verdict}
use mathlib.Core.Path.{◌≡◌, ap, sym, ◌∙◌}
use mathlib.Core.Bool.{Bool, true, false}
use mathlib.Core.List.{List}
use Prim.Native.Nat.{ℕ}
use Rattle.ground_setup.specs.declared.Setup.{Setup}
use Rattle.validator_walks.specs.Places.{places_of, address_of}
use Rattle.validator_walks.specs.Steps.{way_of, as_step}
use Rattle.validator_walks.proofs.Unique.{unique_named}
use Rattle.validator_search.specs.Search.{SearchAnswered}

-- any two answers that the contract of `search` allows, and any two stores that it leaves, are equal
pub searched_unique : (fits : Bool) (image : List ℕ) (su : Setup) (start : ℕ) (s s₁ s₂ : List ℕ) (r q : Option Verdict)
    → SearchAnswered fits image su start s s₁ r → SearchAnswered fits image su start s s₂ q → (r ≡ q) × (s₁ ≡ s₂)
searched_unique true image su start s s₁ s₂ (Some v) (Some w) x y =
    (ap Some (unique_named (λ n. as_step (way_of image su n)) start (address_of su.size) (λ i. i) (places_of su.size) v w x.0 y.0), x.1 ∙ sym y.1)
searched_unique true image su start s s₁ s₂ (Some v) None x y = absurd y
searched_unique true image su start s s₁ s₂ None q x y = absurd x
searched_unique false image su start s s₁ s₂ r q x y = (x.0 ∙ sym y.0, x.1 ∙ sym y.1)
