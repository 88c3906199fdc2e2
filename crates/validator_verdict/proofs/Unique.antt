-- What the validator may answer and leave is one thing. Assumes nothing.
use Rattle.std.specs.Prelude.{Err, Ok, Result}
use Rattle.ground_refusals.specs.declared.Refusal.{Refusal}
use mathlib.Core.Path.{◌≡◌, sym, ap, ◌∙◌}
use mathlib.Core.List.{List}
use Prim.Native.Nat.{ℕ}
use native.Mathlib.Omega.{arith}
use Rattle.ground_refusals.proofs.Laws.{same_refusal}
use Rattle.ground_setup.specs.Setup.{setup}
use Rattle.ground_setup.specs.declared.Setup.{Setup}
use Rattle.ground_look.specs.Look.{fault_number}
use Rattle.ground_look.specs.declared.Fault.{Fault}
use Rattle.validator_walks.specs.declared.Verdict.{Verdict}
use Rattle.validator_walks.specs.declared.Verdict.TheVariants as verdict
use Rattle.validator_walks.proofs.Unique.{unique, same_fault}
use Rattle.validator_verdict.specs.Verdict.{VerdictValues, verdict_values, Tried, tried_of, RightValues, Judged}

values_refused : {m n : ℕ} → VerdictValues.refused m ≡ VerdictValues.refused n → m ≡ n
values_refused e = cc

values_fault : {n a k m b j : ℕ} → VerdictValues.fault n a k ≡ VerdictValues.fault m b j → (n ≡ m) × (a ≡ b) × (k ≡ j)
values_fault e = (cc, cc, cc)

values_passed : {c d : ℕ} → VerdictValues.passed c ≡ VerdictValues.passed d → c ≡ d
values_passed e = cc

same_verdict : (v w : Result Verdict Refusal) → verdict_values v ≡ verdict_values w → v ≡ w
same_verdict (Ok (verdict.Passed c)) (Ok (verdict.Passed d)) e = ap (λ (x : ℕ). Ok (verdict.Passed x)) (values_passed e)
same_verdict (Ok (verdict.Fault f a k)) (Ok (verdict.Fault g b j)) e =
    let q = values_fault e in
    let x : f ≡ g = same_fault f g q.0 in
    let y : a ≡ b = q.1 in
    let z : k ≡ j = q.2 in
    cc
same_verdict (Err r) (Err q) e = ap Err (same_refusal r q (values_refused e))
same_verdict (Ok (verdict.Passed c)) (Ok (verdict.Fault g b j)) e = absurd (let z : ◌≡◌ {A = ℕ} 0 1 = cc in omega arith)
same_verdict (Ok (verdict.Passed c)) (Err q) e = absurd (let z : ◌≡◌ {A = ℕ} 0 1 = cc in omega arith)
same_verdict (Ok (verdict.Fault f a k)) (Ok (verdict.Passed d)) e = absurd (let z : ◌≡◌ {A = ℕ} 0 1 = cc in omega arith)
same_verdict (Ok (verdict.Fault f a k)) (Err q) e = absurd (let z : ◌≡◌ {A = ℕ} 0 1 = cc in omega arith)
same_verdict (Err r) (Ok (verdict.Passed d)) e = absurd (let z : ◌≡◌ {A = ℕ} 0 1 = cc in omega arith)
same_verdict (Err r) (Ok (verdict.Fault g b j)) e = absurd (let z : ◌≡◌ {A = ℕ} 0 1 = cc in omega arith)

passed_same : {c d : ℕ} → verdict.Passed c ≡ verdict.Passed d → VerdictValues.passed c ≡ VerdictValues.passed d
passed_same e = cc

fault_same : {f g : Fault} {a k b j : ℕ} → verdict.Fault f a k ≡ verdict.Fault g b j → VerdictValues.fault (fault_number f) a k ≡ VerdictValues.fault (fault_number g) b j
fault_same e = cc

apart : {f : Fault} {c a k : ℕ} → verdict.Passed c ≡ verdict.Fault f a k → ⊥
apart e = let z : ◌≡◌ {A = ℕ} 0 1 = cc in omega arith

right_unique : (image : List ℕ) (su : Setup) (start : ℕ) (v w : VerdictValues) → RightValues image su start v → RightValues image su start w → v ≡ w
right_unique image su start (VerdictValues.passed c) (VerdictValues.passed d) x y = passed_same (unique image su start (verdict.Passed c) (verdict.Passed d) x y)
right_unique image su start (VerdictValues.passed c) (VerdictValues.fault m b j) x y = absurd (apart (unique image su start (verdict.Passed c) (verdict.Fault y.0 b j) x y.2))
right_unique image su start (VerdictValues.fault n a k) (VerdictValues.passed d) x y = absurd (apart (unique image su start (verdict.Passed d) (verdict.Fault x.0 a k) y x.2))
right_unique image su start (VerdictValues.fault n a k) (VerdictValues.fault m b j) x y =
    ap (λ (i : ℕ). VerdictValues.fault i a k) (sym x.1)
    ∙ fault_same (unique image su start (verdict.Fault x.0 a k) (verdict.Fault y.0 b j) x.2 y.2)
    ∙ ap (λ (i : ℕ). VerdictValues.fault i b j) y.1
right_unique image su start (VerdictValues.passed c) (VerdictValues.refused n) x y = absurd y
right_unique image su start (VerdictValues.fault n a k) (VerdictValues.refused m) x y = absurd y
right_unique image su start (VerdictValues.refused n) w x y = absurd x

-- what is judged, and the store that is left, are one
pub judged_unique : (t : Tried) (image : List ℕ) (start : ℕ) (s s₁ s₂ : List ℕ) (v w : VerdictValues)
    → Judged t image start s s₁ v → Judged t image start s s₂ w → (v ≡ w) × (s₁ ≡ s₂)
judged_unique (Tried.no n) image start s s₁ s₂ v w x y = (x.0 ∙ sym y.0, x.1 ∙ sym y.1)
judged_unique (Tried.fine size) image start s s₁ s₂ v w x y = (right_unique image (setup size) start v w x.0 y.0, x.1 ∙ sym y.1)

-- any two verdicts that the contract of `validate` allows, and any two stores that it leaves, are equal
pub verdict_unique : (image : List ℕ) (size start len room : ℕ) (s s₁ s₂ : List ℕ) (v w : Result Verdict Refusal)
    → Judged (tried_of size len start room) image start s s₁ (verdict_values v)
    → Judged (tried_of size len start room) image start s s₂ (verdict_values w)
    → (v ≡ w) × (s₁ ≡ s₂)
verdict_unique image size start len room s s₁ s₂ v w x y =
    let u = judged_unique (tried_of size len start room) image start s s₁ s₂ (verdict_values v) (verdict_values w) x y in
    (same_verdict v w u.0, u.1)
