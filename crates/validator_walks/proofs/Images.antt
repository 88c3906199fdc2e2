-- The steps of an image by their places' numbers. Assumes nothing.
use mathlib.Core.Path.{◌≡◌, refl, sym, ap, ◌∙◌, subst}
use mathlib.Core.Logic.{inl, inr}
use mathlib.Core.List.{List}
use Prim.Native.Nat.{ℕ, zero, suc, ◌<◌}
use native.Mathlib.Omega.{arith}
use Rattle.ground_setup.specs.declared.Size.{Size}
use Rattle.ground_setup.specs.declared.Setup.{Setup}
use Rattle.ground_orders.specs.declared.Mode.{Mode}
use Rattle.ground_orders.specs.declared.Mode.TheVariants.{Idle}
use Rattle.ground_groups.specs.Groups.{image_group}
use Rattle.ground_look.specs.Look.{look_of, fault_number}
use Rattle.ground_look.specs.declared.Fault.{Fault}
use Rattle.ground_look.specs.declared.Look.{Look}
use Rattle.ground_look.specs.declared.Look.TheVariants as look
use Rattle.validator_walks.specs.declared.Place.{Place}
use Rattle.validator_walks.specs.declared.Verdict.{Verdict}
use Rattle.validator_walks.specs.Places.{place, Proper, half_of, places_of, number_of, address_of, place_of}
use Rattle.validator_walks.specs.Steps.{Step, Leads, step_by, step_of, way_by, way_of, as_step}
use Rattle.validator_walks.specs.Walks.{Reach, RightOf, answer_of, Right}
use Rattle.validator_walks.proofs.Numbering.{place_proper, number_lt, number_of_place, place_of_number, idle_lt}
use Rattle.validator_walks.proofs.Along.{mapped, leads_back, right_along}
use Rattle.validator_walks.proofs.Looks.{look_sound}

-- both ways of a step are idle
abbrev Known : Step Fault Place → Type 0
Known (Step.faulty f) = Unit {0}
Known Step.stops = Unit {0}
Known (Step.to a) = Unit {0}
Known (Step.either a b) = (a.mode ≡ Idle) × (b.mode ≡ Idle)

known_by : (m : Mode) (l : Look) → Known (step_by m l)
known_by m (look.Fault f) = tt
known_by m (look.Check a) = tt
known_by m (look.Enter n a) = tt
known_by m (look.Pass a) = tt
known_by m (look.Timer a) = tt
known_by m (look.SetPen n a) = tt
known_by m (look.End a) = tt
known_by m (look.Jump t) = tt
known_by m (look.Either t a) = (refl, refl)
known_by m (look.Two b c a) = tt
known_by m (look.Four b c d e a) = tt

-- a way is its step with every place as its number
way_mapped : (size : Size) (s : Step Fault Place) → as_step (way_by size s) ≡ mapped (number_of size) s
way_mapped size (Step.faulty n) = refl
way_mapped size Step.stops = refl
way_mapped size (Step.to a) = refl
way_mapped size (Step.either a b) = refl

-- and its places are those of the numbers
mapped_back : (size : Size) (s : Step Fault Place) → ((q : Place) → Leads s q → Proper size q) → s ≡ mapped (place_of size) (mapped (number_of size) s)
mapped_back size (Step.faulty n) P = refl
mapped_back size Step.stops P = refl
mapped_back size (Step.to a) P = ap Step.to (sym (place_of_number size a (P a refl)))
mapped_back size (Step.either a b) P =
    let x : a ≡ place_of size (number_of size a) = sym (place_of_number size a (P a (inl refl))) in
    let y : b ≡ place_of size (number_of size b) = sym (place_of_number size b (P b (inr refl))) in
    ap (λ (z : Place). Step.either z b) x ∙ ap (Step.either (place_of size (number_of size a))) y

either_first : {F : Type 0} {a b c d : ℕ} → ◌≡◌ {A = Step F ℕ} (Step.either a b) (Step.either c d) → (a ≡ c) × (b ≡ d)
either_first e = (cc, cc)

module _ (image : List ℕ) (su : Setup) where
  known : (p : Place) → Known (step_of image su p)
  unfolding step_of
  known p = known_by p.mode (look_of (image_group image su) su p.at p.mode)

  -- a step from a place of the buffer goes on to places of the buffer
  pub step_proper : (p : Place) → Proper su.size p → (q : Place) → Leads (step_of image su p) q → Proper su.size q
  unfolding step_of
  step_proper p P = look_sound su (image_group image su) p.at p.mode P.even

  -- every place that a walk reaches is one of the buffer, so that the numbers below `places_of` count it, and once
  pub reached_proper : (start : Place) → Proper su.size start → (k : ℕ) (p : Place) → Reach (step_of image su) start k p → Proper su.size p
  reached_proper start P zero p r = subst (Proper su.size) (sym r) P
  reached_proper start P (suc k) p r = step_proper r.0 (reached_proper start P k r.0 r.1) p r.2

  from_number : (n : ℕ) (q : Place) → Leads (step_of image su (place_of su.size n)) q → Proper su.size q
  from_number n = step_proper (place_of su.size n) (place_proper su.size n)

  way_is : (n : ℕ) → as_step (way_of image su n) ≡ mapped (number_of su.size) (step_of image su (place_of su.size n))
  unfolding way_of
  way_is n = way_mapped su.size (step_of image su (place_of su.size n))

  pub way_same : (n : ℕ) → step_of image su (place_of su.size n) ≡ mapped (place_of su.size) (as_step (way_of image su n))
  way_same n = mapped_back su.size (step_of image su (place_of su.size n)) (from_number n) ∙ ap (mapped (place_of su.size)) (sym (way_is n))

  -- every number that a number leads to is a place's
  pub way_lt : (n q : ℕ) → Leads (as_step (way_of image su n)) q → q < places_of su.size
  way_lt n q l =
      let b = leads_back (number_of su.size) (step_of image su (place_of su.size n)) q (subst (λ (x : Step Fault ℕ). Leads x q) (way_is n) l) in
      subst (λ (x : ℕ). x < places_of su.size) b.2 (number_lt su.size b.0 (from_number n b.0 b.1))

  -- both ways of a step are among the first numbers
  two_by : (s : Step Fault Place) → Known s → ((q : Place) → Leads s q → Proper su.size q) → (a b : ℕ) → mapped (number_of su.size) s ≡ Step.either a b
      → (a < half_of su.size) × (b < half_of su.size)
  two_by (Step.faulty n) K P a b e = let z : ◌≡◌ {A = ℕ} 0 1 = cc in absurd (omega arith)
  two_by Step.stops K P a b e = let z : ◌≡◌ {A = ℕ} 0 1 = cc in absurd (omega arith)
  two_by (Step.to x) K P a b e = let z : ◌≡◌ {A = ℕ} 0 1 = cc in absurd (omega arith)
  two_by (Step.either x y) K P a b e = let s = either_first e in (
    subst (λ (n : ℕ). n < half_of su.size) s.0 (idle x K.0 (P x (inl refl))),
    subst (λ (n : ℕ). n < half_of su.size) s.1 (idle y K.1 (P y (inr refl))),
  )
    where
      idle : (p : Place) → p.mode ≡ Idle → Proper su.size p → number_of su.size p < half_of su.size
      idle p e P = subst (λ (m : Mode). number_of su.size (place p.at m) < half_of su.size) (sym e) (idle_lt su.size p.at P.inside)

  pub two_lt : (n a b : ℕ) → as_step (way_of image su n) ≡ Step.either a b → (a < half_of su.size) × (b < half_of su.size)
  two_lt n a b e = two_by (step_of image su (place_of su.size n)) (known (place_of su.size n)) (from_number n) a b (sym (way_is n) ∙ e)

  -- what is right of the numbers is right of the places
  pub right_of_numbers : (start : ℕ) → Proper su.size (place start Idle) → (v : Verdict)
      → RightOf (λ n. as_step (way_of image su n)) (number_of su.size (place start Idle)) fault_number (λ i. i) (places_of su.size) (address_of su.size) (answer_of v)
      → Right image su start v
  right_of_numbers start P v R =
      subst (λ (p : Place). RightOf (step_of image su) p fault_number (place_of su.size) (places_of su.size) (λ q. q.at) (answer_of v)) (place_of_number su.size (place start Idle) P)
      (right_along (place_of su.size) (places_of su.size) (λ n. as_step (way_of image su n)) (step_of image su) (number_of su.size (place start Idle))
      (number_lt su.size (place start Idle) P)
      (λ p q h. way_lt p q)
      (λ p h. way_same p)
      (λ p q h l e. sym (number_of_place su.size p h) ∙ ap (number_of su.size) e ∙ number_of_place su.size q l)
      fault_number (address_of su.size) (λ p. p.at) (λ p. refl) (answer_of v) R)
