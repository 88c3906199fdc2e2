-- The starred verdicts are right. Assumes nothing.
use mathlib.Core.Path.{◌≡◌, refl, sym, ap, ◌∙◌, subst}
use mathlib.Core.Logic.{◌⊎◌, inl, inr, ⊎_elim}
use mathlib.Core.List.{List, [], ◌∷◌}
use Prim.Native.Nat.{ℕ, zero, suc, ◌≤◌, ◌<◌}
use native.Mathlib.Nat.{not-suc-le-zero, le_of_suc-le-suc, eq-or-lt_of_le}
use native.Mathlib.Omega.{arith}
use native.Mathlib.Decide.{ℕ_discrete}
use Rattle.ground_setup.specs.Setup.{setup}
use Rattle.ground_setup.specs.declared.Size.{Size}
use Rattle.ground_setup.specs.declared.Size.TheVariants.{K4, K8}
use Rattle.ground_setup.specs.declared.Setup.{Setup}
use Rattle.ground_orders.specs.Orders.{order_of, find_in, table}
use Rattle.ground_orders.specs.declared.Mode.TheVariants.{Idle, Vector}
use Rattle.ground_groups.specs.Groups.{image_group}
use Rattle.ground_look.specs.Look.{look_of, fault_number}
use Rattle.ground_look.specs.declared.Fault.{Fault}
use Rattle.ground_look.specs.declared.Fault.TheVariants.{Unwritten, OddTarget, FarTarget, OrderForY}
use Rattle.validator_walks.specs.declared.Place.{Place}
use Rattle.validator_walks.specs.declared.Verdict.TheVariants as verdict
use Rattle.validator_walks.specs.Places.{place, places_of, number_of, place_of}
use Rattle.validator_walks.specs.Steps.{Step, Leads, step_of}
use Rattle.validator_walks.specs.Walks.{Counted, Reach, Reached, First, Right}
use Rattle.validator_walks.specs.Starred.{starred_cases, AllRight}
use Rattle.validator_walks.proofs.Numbering.{number_of_place}

-- no fault is met where a step goes on or stops
to_calm : {F X : Type 0} (q : X) (n : F) → Step.to q ≡ Step.faulty n → ⊥
to_calm q n c = let z : ◌≡◌ {A = ℕ} 0 1 = cc in omega arith

stops_calm : {F X : Type 0} (n : F) → ◌≡◌ {A = Step F X} Step.stops (Step.faulty n) → ⊥
stops_calm n c = let z : ◌≡◌ {A = ℕ} 0 1 = cc in omega arith

either_calm : {F X : Type 0} (p q : X) (n : F) → Step.either p q ≡ Step.faulty n → ⊥
either_calm p q n c = let z : ◌≡◌ {A = ℕ} 0 1 = cc in omega arith

-- a walk that has one way alone: after k steps it is at p, and no fault was met
module _ {F X : Type 0} (step : X → Step F X) (start : X) where
  record Alone (k : ℕ) (p : X) : Type 0 where
    here : Reach step start k p
    only : (q : X) → Reach step start k q → q ≡ p
    before : (j : ℕ) (q : X) (n : F) → j < k → Reach step start j q → step q ≡ Step.faulty n → ⊥

  begin : Alone 0 start
  begin = record { here = refl; only = λ q r. r; before = λ j q n h. absurd (not-suc-le-zero h) }

  on : (k : ℕ) (p q : X) → step p ≡ Step.to q → Alone k p → Alone (suc k) q
  on k p q e A = record {
    here = (p, A.here, subst (λ (s : Step F X). Leads s q) (sym e) refl);
    only = λ x r. subst (λ (s : Step F X). Leads s x) (ap step (A.only r.0 r.1) ∙ e) r.2;
    before = λ j x n h r f. ⊎_elim
        (λ s. to_calm q n (sym e ∙ ap step (sym (A.only x (subst (λ (i : ℕ). Reach step start i x) s r))) ∙ f))
        (λ l. A.before j x n l r f)
        (eq-or-lt_of_le (le_of_suc-le-suc h));
  }

  ends_first : (number : F → ℕ) (address : X → ℕ) (k : ℕ) (p : X) (n : F) → step p ≡ Step.faulty n → Alone k p → First step start number address n (address p) k
  ends_first number address k p n e A = record {
    met = p;
    here = A.here;
    faulty = e;
    at = refl;
    earlier = A.before;
    lowest = λ q m r f. inr (ap address (sym (A.only q r)), same_fault m (sym e ∙ ap step (sym (A.only q r)) ∙ f));
  }
    where
      same_fault : (m : F) → ◌≡◌ {A = Step F X} (Step.faulty n) (Step.faulty m) → number n ≤ number m
      same_fault m c = let s : n ≡ m = cc in omega (arith, ap number s)

  -- what holds of the start and is kept by every step holds wherever a walk is
  stays_in : (In : X → Type 0) → In start → ((p : X) → In p → (q : X) → Leads (step p) q → In q) → (k : ℕ) (p : X) → Reach step start k p → In p
  stays_in In s kept zero p r = subst In (sym r) s
  stays_in In s kept (suc k) p r = kept r.0 (stays_in In s kept k r.0 r.1) p r.2

-- past n nothing more is counted
counted_past : {P : ℕ → Type 0} {n c : ℕ} → Counted P n c → (t : ℕ) → n ≤ t → ((i : ℕ) → n ≤ i → i < t → P i → ⊥) → Counted P t c
counted_past {P} {n} {c} C zero h none = subst (λ (x : ℕ). Counted P x c) (omega arith) C
counted_past {P} {n} {c} C (suc t) h none =
    elim (ℕ_discrete n (suc t)) [
      | yes e ↦ subst (λ (x : ℕ). Counted P x c) e C
      | no d ↦ Counted.skip (none t (omega arith) (omega arith)) (counted_past C t (omega arith) (λ i l u. none i l (omega arith)))
    ]

-- a number below is the number of its place
number_is : (size : Size) (i : ℕ) (p : Place) → i < places_of size → place_of size i ≡ p → i ≡ number_of size p
number_is size i p h e = sym (number_of_place size i h) ∙ ap (number_of size) e

abbrev in4 : Setup
in4 = setup K4

abbrev idle : ℕ → Place
idle a = place a Idle

module _ (image : List ℕ) where
  abbrev from4 : Place → Step Fault Place
  from4 = step_of image in4

  -- no walk leaves one place, or two of which the first is met first
  passed_one : from4 (idle 0) ≡ Step.to (idle 0) → Right image in4 0 (verdict.Passed 1)
  passed_one e =
      let inside : (k : ℕ) (p : Place) → Reach from4 (idle 0) k p → p ≡ idle 0 =
      stays_in from4 (idle 0) (λ p. p ≡ idle 0) refl (λ p s q l. subst (λ (x : Step Fault Place). Leads x q) (ap from4 s ∙ e) l) in
      record {
        sound = λ k p n r f. to_calm (idle 0) n (sym e ∙ ap from4 (sym (inside k p r)) ∙ f);
        count = counted_past (Counted.take (0, refl) Counted.none) (places_of K4) (omega arith)
            (λ i l u r. absurd (omega (arith, number_is K4 i (idle 0) u (inside r.0 (place_of K4 i) r.1))));
      }

  -- the first of two places leads to no other than the two, and the second stops
  module _ (b : ℕ) (calm : (n : Fault) → from4 (idle 0) ≡ Step.faulty n → ⊥)
      (led : (q : Place) → Leads (from4 (idle 0)) q → (q ≡ idle 0) ⊎ (q ≡ idle b)) (stop : from4 (idle b) ≡ Step.stops) where
    two_kept : (p : Place) → (p ≡ idle 0) ⊎ (p ≡ idle b) → (q : Place) → Leads (from4 p) q → (q ≡ idle 0) ⊎ (q ≡ idle b)
    two_kept p i q l =
        ⊎_elim
        (λ s. led q (subst (λ (x : Place). Leads (from4 x) q) s l))
        (λ s. absurd (subst (λ (x : Step Fault Place). Leads x q) (ap from4 s ∙ stop) l))
        i

    two_inside : (k : ℕ) (p : Place) → Reach from4 (idle 0) k p → (p ≡ idle 0) ⊎ (p ≡ idle b)
    two_inside = stays_in from4 (idle 0) (λ p. (p ≡ idle 0) ⊎ (p ≡ idle b)) (inl refl) two_kept

    two_numbers : (i : ℕ) → i < places_of K4 → Reached from4 (idle 0) (place_of K4 i) → (i ≡ 0) ⊎ (i ≡ number_of K4 (idle b))
    two_numbers i h r =
        ⊎_elim
        (λ e. inl (number_is K4 i (idle 0) h e))
        (λ e. inr (number_is K4 i (idle b) h e))
        (two_inside r.0 (place_of K4 i) r.1)

    passed_two : number_of K4 (idle b) < places_of K4 → Counted (λ i. Reached from4 (idle 0) (place_of K4 i)) (suc (number_of K4 (idle b))) 2
        → Right image in4 0 (verdict.Passed 2)
    passed_two h C = record {
      sound = λ k p n r f. ⊎_elim
          (λ e. calm n (ap from4 (sym e) ∙ f))
          (λ e. stops_calm n (sym stop ∙ ap from4 (sym e) ∙ f))
          (two_inside k p r);
      count = counted_past C (places_of K4) (omega arith) (λ i l u r. ⊎_elim (λ e. omega arith) (λ e. omega arith) (two_numbers i u r));
    }

module _ (size : Size) (image : List ℕ) where
  abbrev su : Setup
  su = setup size

  -- a fault at the start, and one after a step
  at_once : (n : Fault) → step_of image su (idle 0) ≡ Step.faulty n → Right image su 0 (verdict.Fault n 0 0)
  at_once n e = ends_first (step_of image su) (idle 0) fault_number (λ p. p.at) 0 (idle 0) n e (begin (step_of image su) (idle 0))

  after_one : (p : Place) (n : Fault) → step_of image su (idle 0) ≡ Step.to p → step_of image su p ≡ Step.faulty n → Right image su 0 (verdict.Fault n p.at 1)
  after_one p n a e =
      ends_first (step_of image su) (idle 0) fault_number (λ p. p.at) 1 p n e (on (step_of image su) (idle 0) 0 (idle 0) p a (begin (step_of image su) (idle 0)))

  after_three : (p q r : Place) (n : Fault) → step_of image su (idle 0) ≡ Step.to p → step_of image su p ≡ Step.to q → step_of image su q ≡ Step.to r
      → step_of image su r ≡ Step.faulty n → Right image su 0 (verdict.Fault n r.at 3)
  after_three p q r n a b c e =
      ends_first (step_of image su) (idle 0) fault_number (λ p. p.at) 3 r n e
      (on (step_of image su) (idle 0) 2 q r c
      (on (step_of image su) (idle 0) 1 p q b
      (on (step_of image su) (idle 0) 0 (idle 0) p a (begin (step_of image su) (idle 0)))))

abbrev no_detect : List ℕ
no_detect = 0x2A ∷ 0xFD ∷ 0x00 ∷ 0x00 ∷ 0x2A ∷ 0x81 ∷ []

abbrev odd_2_a : List ℕ
odd_2_a = 0x00 ∷ 0x2A ∷ 0x2A ∷ 0x81 ∷ []

no_detect_passed : Right no_detect in4 0 (verdict.Passed 2)
unfolding step_of look_of image_group order_of find_in table
no_detect_passed =
    passed_two no_detect 4 (either_calm (idle 0) (idle 4)) (λ q l. l) refl (omega arith)
    (Counted.take (1, (idle 0, refl, inr refl))
    (Counted.skip
    (λ r. ⊎_elim (λ e. omega arith) (λ e. omega arith) (two_numbers no_detect 4 (either_calm (idle 0) (idle 4)) (λ q l. l) refl 1 (omega arith) r))
    (Counted.take (0, refl) Counted.none)))

odd_2_a_passed : Right odd_2_a in4 0 (verdict.Passed 2)
unfolding step_of look_of image_group order_of find_in table
odd_2_a_passed =
    passed_two odd_2_a 2 (to_calm (idle 2)) (λ q l. inr l) refl (omega arith)
    (Counted.take (1, (idle 0, refl, refl)) (Counted.take (0, refl) Counted.none))

-- every starred verdict
pub all_right : AllRight starred_cases
unfolding step_of look_of image_group order_of find_in table
all_right = (
  at_once K4 [] Unwritten refl,
  refl,
  (
    after_three K4 (0 ∷ 0 ∷ 0 ∷ 0 ∷ 0 ∷ 0 ∷ []) (idle 2) (idle 4) (idle 6) Unwritten refl refl refl refl,
    refl,
    (
      after_one K4 (0x2A ∷ 0xC0 ∷ []) (idle 4) Unwritten refl refl,
      refl,
      (
        passed_one (0x2A ∷ 0xFF ∷ 0x00 ∷ 0x00 ∷ []) refl,
        refl,
        (
          at_once K4 (0x2A ∷ 0xFF ∷ 0x00 ∷ 0x03 ∷ []) OddTarget refl,
          refl,
          (
            at_once K4 (0x2A ∷ 0xFF ∷ 0xFF ∷ 0xFF ∷ []) OddTarget refl,
            refl,
            (
              at_once K4 (0x2A ∷ 0xFF ∷ 0x10 ∷ 0x00 ∷ []) FarTarget refl,
              refl,
              (
                after_one K8 (0x2A ∷ 0xFF ∷ 0x10 ∷ 0x00 ∷ []) (idle 4096) Unwritten refl refl,
                refl,
                (
                  no_detect_passed,
                  refl,
                  (
                    after_one K4 (0x2A ∷ 0x02 ∷ 0x00 ∷ 0x00 ∷ 0x2A ∷ 0x81 ∷ []) (place 2 Vector) OrderForY refl refl,
                    refl,
                    (odd_2_a_passed, refl, tt),
                  ),
                ),
              ),
            ),
          ),
        ),
      ),
    ),
  ),
)
