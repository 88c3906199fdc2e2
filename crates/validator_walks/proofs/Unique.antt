-- Any two right answers are equal. Assumes nothing.
use mathlib.Core.Path.{◌≡◌, refl, sym, ap, ◌∙◌, subst}
use mathlib.Core.Bool.{cond}
use lib.Dec.{eqb}
use mathlib.Core.Logic.{⊎_elim}
use mathlib.Core.List.{List}
use Prim.Native.Nat.{ℕ, suc, ◌<◌}
use native.Mathlib.Omega.{arith}
use Rattle.ground_setup.specs.declared.Setup.{Setup}
use Rattle.ground_orders.specs.declared.Mode.TheVariants.{Idle}
use Rattle.ground_look.specs.Look.{fault_number}
use Rattle.ground_look.specs.declared.Fault.{Fault}
use Rattle.ground_look.specs.declared.Fault.TheVariants.{Unwritten, NoRow, OddTarget, FarTarget, OrderForY}
use Rattle.validator_walks.specs.declared.Verdict.{Verdict}
use Rattle.validator_walks.specs.declared.Verdict.TheVariants as verdict
use Rattle.validator_walks.specs.Places.{place, place_of, places_of}
use Rattle.validator_walks.specs.Steps.{Step, step_of}
use Rattle.validator_walks.specs.Walks.{Answer, Counted, First, RightOf, answer_of, Right}

-- a fault is known by its number
fault_of : ℕ → Fault
fault_of n = cond (eqb n 2) NoRow (cond (eqb n 3) OddTarget (cond (eqb n 4) FarTarget (cond (eqb n 5) OrderForY Unwritten)))

fault_of_number : (f : Fault) → fault_of (fault_number f) ≡ f
unfolding fault_of
fault_of_number Unwritten = refl
fault_of_number NoRow = refl
fault_of_number OddTarget = refl
fault_of_number FarTarget = refl
fault_of_number OrderForY = refl

pub same_fault : (f g : Fault) → fault_number f ≡ fault_number g → f ≡ g
same_fault f g e = sym (fault_of_number f) ∙ ap fault_of e ∙ fault_of_number g

pub fault_lt : (f : Fault) → (0 < fault_number f) × (fault_number f < 6)
fault_lt Unwritten = (omega arith, omega arith)
fault_lt NoRow = (omega arith, omega arith)
fault_lt OddTarget = (omega arith, omega arith)
fault_lt FarTarget = (omega arith, omega arith)
fault_lt OrderForY = (omega arith, omega arith)

pub counted_unique : {Q : ℕ → Type 0} {n c d : ℕ} → Counted Q n c → Counted Q n d → c ≡ d
counted_unique Counted.none Counted.none = refl
counted_unique (Counted.take a x) (Counted.take b y) = ap suc (counted_unique x y)
counted_unique (Counted.take a x) (Counted.skip b y) = absurd (b a)
counted_unique (Counted.skip a x) (Counted.take b y) = absurd (a b)
counted_unique (Counted.skip a x) (Counted.skip b y) = counted_unique x y

module _ {F X : Type 0} (step : X → Step F X) (start : X) (number : F → ℕ) (address : X → ℕ) where
  not_later : (n : F) (a k : ℕ) (m : F) (b j : ℕ) → First step start number address n a k → First step start number address m b j → k < j → ⊥
  not_later n a k m b j x y l = y.earlier k x.met n l x.here x.faulty

  same_steps : (n : F) (a k : ℕ) (m : F) (b j : ℕ) → First step start number address n a k → First step start number address m b j → k ≡ j
  same_steps n a k m b j x y =
      let u : ¬ (k < j) = not_later n a k m b j x y in
      let v : ¬ (j < k) = not_later m b j n a k y x in
      omega arith

  same_rest : (n : F) (a k : ℕ) (m : F) (b : ℕ) → First step start number address n a k → First step start number address m b k → (number n ≡ number m) × (a ≡ b)
  same_rest n a k m b x y =
      ⊎_elim
      (λ u. ⊎_elim (λ v. omega (arith, x.at, y.at)) (λ v. omega (arith, x.at, y.at)) (y.lowest x.met n x.here x.faulty))
      (λ u. ⊎_elim (λ v. omega (arith, x.at, y.at)) (λ v. omega (arith, x.at, y.at)) (y.lowest x.met n x.here x.faulty))
      (x.lowest y.met m y.here y.faulty)

  -- over any graph whose faults are known by their numbers
  module _ (known : (f g : F) → number f ≡ number g → f ≡ g) (numbered : ℕ → X) (places : ℕ) where
    pub unique_of : (v w : Answer F) → RightOf step start number numbered places address v → RightOf step start number numbered places address w → v ≡ w
    unique_of (Answer.passed c) (Answer.passed d) x y = ap Answer.passed (counted_unique x.count y.count)
    unique_of (Answer.passed c) (Answer.fault m b j) x y = absurd (x.sound j y.met m y.here y.faulty)
    unique_of (Answer.fault n a k) (Answer.passed d) x y = absurd (y.sound k x.met n x.here x.faulty)
    unique_of (Answer.fault n a k) (Answer.fault m b j) x y =
        let s : k ≡ j = same_steps n a k m b j x y in
        let r = same_rest n a k m b x (subst (First step start number address m b) (sym s) y) in
        let p : n ≡ m = known n m r.0 in
        let q : a ≡ b = r.1 in
        cc

-- where the faults are numbers
pub unique_numbered : {X : Type 0} (step : X → Step ℕ X) (start : X) (address : X → ℕ) (numbered : ℕ → X) (places : ℕ) (v w : Answer ℕ)
    → RightOf step start (λ n. n) numbered places address v → RightOf step start (λ n. n) numbered places address w → v ≡ w
unique_numbered step start address = unique_of step start (λ n. n) address (λ f g e. e)

verdict_of : Answer Fault → Verdict
verdict_of (Answer.passed c) = verdict.Passed c
verdict_of (Answer.fault f a k) = verdict.Fault f a k

verdict_of_answer : (v : Verdict) → verdict_of (answer_of v) ≡ v
unfolding verdict_of
verdict_of_answer (verdict.Passed c) = refl
verdict_of_answer (verdict.Fault f a k) = refl

-- where they are those of one step, and the answers verdicts
pub unique_named : {X : Type 0} (step : X → Step Fault X) (start : X) (address : X → ℕ) (numbered : ℕ → X) (places : ℕ) (v w : Verdict)
    → RightOf step start fault_number numbered places address (answer_of v) → RightOf step start fault_number numbered places address (answer_of w) → v ≡ w
unique_named step start address numbered places v w x y =
    sym (verdict_of_answer v)
    ∙ ap verdict_of (unique_of step start fault_number address same_fault numbered places (answer_of v) (answer_of w) x y)
    ∙ verdict_of_answer w

-- two right answers on an image are equal
pub unique : (image : List ℕ) (su : Setup) (start : ℕ) (v w : Verdict) → Right image su start v → Right image su start w → v ≡ w
unique image su start = unique_named (step_of image su) (place start Idle) (λ p. p.at) (place_of su.size) (places_of su.size)
