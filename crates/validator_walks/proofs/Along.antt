-- Walks over numbers are walks over what the numbers stand for. Assumes nothing.
use mathlib.Core.Path.{◌≡◌, refl, sym, ap, ◌∙◌, subst}
use mathlib.Core.Logic.{◌⊎◌, inl, inr, ⊎_elim}
use Prim.Native.Nat.{ℕ, zero, suc, ◌≤◌, ◌<◌}
use native.Mathlib.Omega.{arith}
use Rattle.validator_walks.specs.Steps.{Step, Leads}
use Rattle.validator_walks.specs.Walks.{Answer, Reach, Counted, Clean, First, RightOf}

-- a step with every place named anew
abbrev pub mapped : {F X Y : Type 0} → (X → Y) → Step F X → Step F Y
mapped f (Step.faulty g) = Step.faulty g
mapped f Step.stops = Step.stops
mapped f (Step.to a) = Step.to (f a)
mapped f (Step.either a b) = Step.either (f a) (f b)

module _ {F X Y : Type 0} (f : X → Y) where
  pub leads_map : (s : Step F X) (q : X) → Leads s q → Leads (mapped f s) (f q)
  leads_map (Step.faulty n) q l = absurd l
  leads_map Step.stops q l = absurd l
  leads_map (Step.to a) q l = ap f l
  leads_map (Step.either a b) q l = ⊎_elim (λ e. inl (ap f e)) (λ e. inr (ap f e)) l

  pub leads_back : (s : Step F X) (y : Y) → Leads (mapped f s) y → (q : X) × Leads s q × (f q ≡ y)
  leads_back (Step.faulty n) y l = absurd l
  leads_back Step.stops y l = absurd l
  leads_back (Step.to a) y l = (a, refl, sym l)
  leads_back (Step.either a b) y l = ⊎_elim (λ e. (a, inl refl, sym e)) (λ e. (b, inr refl, sym e)) l

  pub faulty_back : (s : Step F X) (n : F) → mapped f s ≡ Step.faulty n → s ≡ Step.faulty n
  faulty_back (Step.faulty m) n e = let h : m ≡ n = cc in ap Step.faulty h
  faulty_back Step.stops n e = let z : ◌≡◌ {A = ℕ} 0 1 = cc in absurd (omega arith)
  faulty_back (Step.to a) n e = let z : ◌≡◌ {A = ℕ} 0 1 = cc in absurd (omega arith)
  faulty_back (Step.either a b) n e = let z : ◌≡◌ {A = ℕ} 0 1 = cc in absurd (omega arith)

pub counted_map : {P Q : ℕ → Type 0} {n c : ℕ} → ((i : ℕ) → i < n → P i → Q i) → ((i : ℕ) → i < n → Q i → P i) → Counted P n c → Counted Q n c
counted_map to back Counted.none = Counted.none
counted_map to back (Counted.take {n} p x) = Counted.take (to n (omega arith) p) (counted_map (λ i h. to i (omega arith)) (λ i h. back i (omega arith)) x)
counted_map to back (Counted.skip {n} p x) = Counted.skip (λ q. p (back n (omega arith) q)) (counted_map (λ i h. to i (omega arith)) (λ i h. back i (omega arith)) x)

-- the numbers below `places` stand for places, each for another one, and a number steps as its place does
module _ {F X : Type 0} (f : ℕ → X) (places : ℕ) (step_n : ℕ → Step F ℕ) (step_x : X → Step F X) (start : ℕ)
    (start_lt : start < places)
    (led_lt : (p q : ℕ) → p < places → Leads (step_n p) q → q < places)
    (same : (p : ℕ) → p < places → step_x (f p) ≡ mapped f (step_n p))
    (apart : (p q : ℕ) → p < places → q < places → f p ≡ f q → p ≡ q) where
  reach_lt : (k p : ℕ) → Reach step_n start k p → p < places
  reach_lt zero p e = subst (λ (x : ℕ). x < places) (sym e) start_lt
  reach_lt (suc k) p r = led_lt r.0 p (reach_lt k r.0 r.1) r.2

  along : (k p : ℕ) → Reach step_n start k p → Reach step_x (f start) k (f p)
  along zero p e = ap f e
  along (suc k) p r =
      (f r.0, along k r.0 r.1, subst (λ (s : Step F X). Leads s (f p)) (sym (same r.0 (reach_lt k r.0 r.1))) (leads_map f (step_n r.0) p r.2))

  back : (k : ℕ) (x : X) → Reach step_x (f start) k x → (p : ℕ) × Reach step_n start k p × (f p ≡ x)
  back zero x e = (start, refl, sym e)
  back (suc k) x r =
      let b = back k r.0 r.1 in
      let s : step_x r.0 ≡ mapped f (step_n b.0) = ap step_x (sym b.2) ∙ same b.0 (reach_lt k b.0 b.1) in
      let l = leads_back f (step_n b.0) x (subst (λ (y : Step F X). Leads y x) s r.2) in
      (l.0, (b.0, b.1, l.1), l.2)

  -- a fault of a place that is reached is its number's
  fault_back : (k : ℕ) (x : X) (n : F) (r : Reach step_x (f start) k x) → step_x x ≡ Step.faulty n → step_n (back k x r).0 ≡ Step.faulty n
  fault_back k x n r e =
      let b = back k x r in
      faulty_back f (step_n b.0) n (sym (same b.0 (reach_lt k b.0 b.1)) ∙ ap step_x b.2 ∙ e)

  pub clean_along : (c : ℕ) → Clean step_n start (λ i. i) places c → Clean step_x (f start) f places c
  clean_along c C = record {
    sound = λ k x n r e. C.sound k (back k x r).0 n (back k x r).1 (fault_back k x n r e);
    count = counted_map
        (λ i h r. (r.0, along r.0 i r.1))
        (λ i h r.
        let b = back r.0 (f i) r.1 in
        (r.0, subst (Reach step_n start r.0) (apart b.0 i (reach_lt r.0 b.0 b.1) h b.2) b.1))
        C.count;
  }

  module _ (number : F → ℕ) (address_n : ℕ → ℕ) (address_x : X → ℕ) (address : (p : ℕ) → address_x (f p) ≡ address_n p) where
    pub first_along : (n : F) (a k : ℕ) → First step_n start number address_n n a k → First step_x (f start) number address_x n a k
    first_along n a k G = record {
      met = f G.met;
      here = along k G.met G.here;
      faulty = same G.met (reach_lt k G.met G.here) ∙ ap (mapped f) G.faulty;
      at = address G.met ∙ G.at;
      earlier = λ j x m l r e. G.earlier j (back j x r).0 m l (back j x r).1 (fault_back j x m r e);
      lowest = λ x m r e.
          subst (λ (y : ℕ). (a < y) ⊎ ((a ≡ y) × (number n ≤ number m))) (sym (address (back k x r).0) ∙ ap address_x (back k x r).2)
          (G.lowest (back k x r).0 m (back k x r).1 (fault_back k x m r e));
    }

    pub right_along : (v : Answer F) → RightOf step_n start number (λ i. i) places address_n v → RightOf step_x (f start) number f places address_x v
    right_along (Answer.passed c) C = clean_along c C
    right_along (Answer.fault n a k) G = first_along n a k G
