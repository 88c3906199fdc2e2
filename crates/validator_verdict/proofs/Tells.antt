-- What an answer tells that is no refusal: the image was fit to be looked at, and passed or fault is right. Assumes nothing.
use Rattle.std.specs.Prelude.{Err, Ok, Result}
use Rattle.ground_refusals.specs.declared.Refusal.{Refusal}
use Prim.Native.Nat.{ℕ, ◌%◌, ◌≤◌, ◌<◌}
use native.Mathlib.Omega.{arith}
use mathlib.Core.Path.{◌≡◌, refl}
use mathlib.Core.Bool.{Bool, true, false, cond}
use mathlib.Core.List.{List}
use lib.ListN.{length}
use lib.Dec.{eqb, ltb, leb}
use borrow.Author.Tests.{eqb-false, ltb-false, leb-false}
use Rattle.ground_setup.specs.Setup.{size_of, sized_of, setup}
use Rattle.ground_setup.specs.declared.Size.{Size}
use Rattle.ground_setup.proofs.Laws.{sized_number}
use Rattle.validator_store.specs.Layout.{room_of}
use Rattle.validator_verdict.specs.Verdict.{VerdictValues, Tried, tried_by, tried_of, RightValues, Judged}

-- passed, or a fault
abbrev pub NoRefusal : VerdictValues → Type 0
NoRefusal (VerdictValues.passed c) = Unit {0}
NoRefusal (VerdictValues.fault n a k) = Unit {0}
NoRefusal (VerdictValues.refused n) = ⊥

-- the image was looked at: in a buffer of this size, which it fits, from an even start inside
pub record LookedAt (image : List ℕ) (size start : ℕ) (v : VerdictValues) : Type 0 where
  pub buffer : Size
  pub sized : size ≡ size_of buffer
  pub fits : length image ≤ size_of buffer
  pub even : start % 2 ≡ 0
  pub inside : start < size_of buffer
  pub right : RightValues image (setup buffer) start v

no_refusal : (v : VerdictValues) (n : ℕ) {A : Type 0} → NoRefusal v → v ≡ VerdictValues.refused n → A
no_refusal (VerdictValues.passed c) n a e = let z : ◌≡◌ {A = ℕ} 0 1 = cc in absurd (omega arith)
no_refusal (VerdictValues.fault m at k) n a e = let z : ◌≡◌ {A = ℕ} 0 1 = cc in absurd (omega arith)
no_refusal (VerdictValues.refused m) n a e = absurd a

module _ (image : List ℕ) (size start : ℕ) (store left : List ℕ) (v : VerdictValues) (looked : NoRefusal v) where
  tells_in : (s : Size) → size ≡ size_of s → (long odd far short : Bool)
      → ltb (size_of s) (length image) ≡ long → eqb (start % 2) 1 ≡ odd → leb (size_of s) start ≡ far
      → Judged (cond long (Tried.no 2) (cond odd (Tried.no 3) (cond far (Tried.no 4) (cond short (Tried.no 5) (Tried.fine s))))) image start store left v
      → LookedAt image size start v
  tells_in s z true odd far short e f g j = no_refusal v 2 looked j.0
  tells_in s z false true far short e f g j = no_refusal v 3 looked j.0
  tells_in s z false false true short e f g j = no_refusal v 4 looked j.0
  tells_in s z false false false true e f g j = no_refusal v 5 looked j.0
  tells_in s z false false false false e f g j =
      let even : start % 2 ≡ 1 → ⊥ = eqb-false (start % 2) 1 f in
      record { buffer = s; sized = z; fits = ltb-false (size_of s) (length image) e; even = omega arith; inside = leb-false (size_of s) start g; right = j.0 }

  tells_by : (z : Result Size Refusal) → sized_of size ≡ z → Judged (tried_by z (length image) start (length store)) image start store left v → LookedAt image size start v
  tells_by (Err r) e j = no_refusal v _ looked j.0
  tells_by (Ok s) e j =
      tells_in s (sized_number size s e) (ltb (size_of s) (length image)) (eqb (start % 2) 1) (leb (size_of s) start) (ltb (length store) (room_of s)) refl refl refl j

  pub judged_tells : Judged (tried_of size (length image) start (length store)) image start store left v → LookedAt image size start v
  judged_tells j = tells_by (sized_of size) refl j
