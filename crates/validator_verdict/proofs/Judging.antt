-- The verdict of a search. Assumes nothing.
use Rattle.std.specs.Prelude.{None, Option, Some, Ok}
use Rattle.std.specs.Option.{ok_or}
use Rattle.ground_refusals.specs.declared.Refusal.TheVariants.{ShortStore}
use mathlib.Core.Path.{◌≡◌, refl, subst}
use mathlib.Core.Bool.{Bool, true, false}
use mathlib.Core.List.{List}
use Prim.Native.Nat.{ℕ, ◌%◌, ◌<◌}
use native.Mathlib.Omega.{arith}
use native.Mathlib.Decide.{dec_lt}
use lib.ListN.{length}
use lib.Dec.{leb}
use borrow.Author.Tests.{lt-ltb, le-ltb, lt-leb, le-leb}
use Rattle.ground_setup.specs.Setup.{size_of, setup}
use Rattle.ground_setup.specs.declared.Size.{Size}
use Rattle.ground_orders.specs.declared.Mode.TheVariants.{Idle}
use Rattle.validator_walks.specs.declared.Verdict.{Verdict}
use Rattle.validator_walks.specs.declared.Verdict.TheVariants as verdict
use Rattle.validator_walks.specs.Places.{place, Proper, places_of, number_of}
use Rattle.validator_walks.specs.Walks.{Right}
use Rattle.validator_walks.proofs.Numbering.{number_lt}
use Rattle.validator_walks.proofs.Images.{right_of_numbers}
use Rattle.validator_store.specs.Layout.{room_of}
use Rattle.validator_search.specs.Search.{fitting, SearchAnswered}
use Rattle.validator_verdict.specs.Verdict.{verdict_values, tried_store, RightValues, Judged}

module _ (image : List ℕ) (size : Size) (start : ℕ) (even : start % 2 ≡ 0) (inside : start < size_of size) (s s' : List ℕ) where
  proper : Proper size (place start Idle)
  proper = record { even = even; inside = inside }

  module _ (r : Option Verdict) (A : SearchAnswered (fitting (setup size) (number_of size (place start Idle)) (length s)) image (setup size) (number_of size (place start Idle)) s s' r) where
    -- the start is a place, so that the store alone decides
    fits_store : (b : Bool) → leb (room_of size) (length s) ≡ b → fitting (setup size) (number_of size (place start Idle)) (length s) ≡ b
    fits_store b e = rw (lt-ltb (number_of size (place start Idle)) (places_of size) (number_lt size (place start Idle) proper)) e

    answered : (b : Bool) → leb (room_of size) (length s) ≡ b → SearchAnswered b image (setup size) (number_of size (place start Idle)) s s' r
    answered b e = subst (λ (x : Bool). SearchAnswered x image (setup size) (number_of size (place start Idle)) s s' r) (fits_store b e) A

  -- the values of a right verdict are right
  values : (v : Verdict) → Right image (setup size) start v → RightValues image (setup size) start (verdict_values (Ok v))
  values (verdict.Passed c) R = R
  values (verdict.Fault f a k) R = (f, refl, R)

  different : (v : Verdict) → Some v ≡ None → ⊥
  different v e = let z : ◌≡◌ {A = ℕ} 0 1 = cc in omega arith

  pub judged : (r : Option Verdict)
      → SearchAnswered (fitting (setup size) (number_of size (place start Idle)) (length s)) image (setup size) (number_of size (place start Idle)) s s' r
      → Judged (tried_store size (length s)) image start s s' (verdict_values (ok_or r ShortStore))
  judged None A =
      elim (dec_lt (length s) (room_of size)) [
        | yes l ↦ rw (lt-ltb (length s) (room_of size) l) (refl, (answered None A false (lt-leb (room_of size) (length s) l)).1)
        | no n ↦ absurd (answered None A true (le-leb (room_of size) (length s) (omega arith)))
      ]
  judged (Some v) A =
      elim (dec_lt (length s) (room_of size)) [
        | yes l ↦ absurd (different v (answered (Some v) A false (lt-leb (room_of size) (length s) l)).0)
        | no n ↦
            let R = answered (Some v) A true (le-leb (room_of size) (length s) (omega arith)) in
            rw (le-ltb (length s) (room_of size) (omega arith)) (values v (right_of_numbers image (setup size) start proper v R.0), R.1)
      ]
