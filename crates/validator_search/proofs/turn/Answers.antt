-- The place taken off is gone on from, or its fault is weighed.
use Rattle.std.proofs.Common.{◌≡◌, ◌⊎◌, inl, inr, ℕ, suc, ◌+◌, ◌≤◌, ◌<◌, List, refl, sym, ap, ◌∙◌, subst, add-one, arith, not, Bool}
use Rattle.ground_look.specs.declared.Fault.{Fault}
use Rattle.validator_walks.specs.Steps.{Step, way_of, as_step}
use Rattle.validator_walks.specs.Places.{places_of, address_of}
use Rattle.validator_store.specs.Layout.{base_of, cap_of}
use Rattle.ground_setup.specs.declared.Setup.{Setup}
use Rattle.validator_store.specs.Store.{entry_at}
use Rattle.validator_search.specs.Invariant.{plan_of, slot, Plan, Fitted, Mid, Ready, Next, Opened, none, key_at, key_of}
use mathlib.Core.Bool.{false≢true}
use Rattle.ground_look.specs.Look.{fault_number}
use Rattle.std.proofs.Common.{⊎_elim, Some}
use native.Mathlib.Decide.{ℕ_discrete}
use Rattle.validator_walks.proofs.Unique.{fault_lt}
use Rattle.validator_search.specs.declared.Met.{Met}
use Rattle.validator_search.proofs.Plans.{fitted}
use Rattle.validator_search.proofs.Growth.{room_one}
use Rattle.validator_search.proofs.Levels.{ready, grew, blamed}
use Rattle.validator_search.proofs.turn.Goals as goal

module _ {F : Type 0} (P : Plan F) (S : Fitted P) (s : List ℕ) (side : Bool) (rest t k key c : ℕ) (M : Mid P s side (rest + 1) t k key c) (low : key ≤ none) where
  middle : Mid P s side (suc rest) t k key c
  middle = subst (λ (x : ℕ). Mid P s side x t k key c) (add-one rest) M

  room : rest + t < P.cap
  room = room_one P S _ s side rest t (ready P S s side rest t k key c _ middle refl low)

  -- the place that lies at `at`
  module _ (at p : ℕ) (lies : at ≡ slot (not side) P.base P.cap rest) (load : p ≡ entry_at s at) where
    loaded : entry_at s (slot (not side) P.base P.cap rest) ≡ p
    loaded = ap (entry_at s) (sym lies) ∙ sym load

    ready_at : Ready P s rest t p
    ready_at = ready P S s side rest t k key c p middle loaded low

    grown : (s' : List ℕ) (t' : ℕ) (r : Opened P p s s' side rest t t') → Next P s s' side rest t' k key c
    grown s' t' r = grew P S s side rest t k key c p middle loaded low s' t' r

    -- a fault and the key that is kept
    blame_next : (s' : List ℕ) (f : F) (key' : ℕ) → (P.step p ≡ Step.faulty f) × (s' ≡ s)
        → key' ≤ key → key' ≤ key_at (P.address p) (P.number f) → (key' ≡ key_at (P.address p) (P.number f)) ⊎ (key' ≡ key) → Next P s s' side rest t k key' c
    blame_next s' f key' b h₁ h₂ d =
        subst (λ (x : List ℕ). Next P s x side rest t k key' c) (sym b.1)
        (blamed P S s side rest t k key c p middle loaded low f key' b.0 h₁ h₂ d)

pub slot_at-requires : goal.slot_at-requires
slot_at-requires c =
    let a = c.args in
    let A = c.requires in
    let S = fitted a.image.now a.setup A.0 A.3 in
    omega (arith, room (plan_of a.image.now a.setup A.0) S a.store.now a.side a.rest a.found.t A.1 (key_of a.found.first) A.2 A.5 A.4)

pub expand-requires : goal.expand-requires
expand-requires c =
    let a = c.args in
    let A = c.requires in
    let S = fitted a.image.now a.setup A.0 A.3 in
    let r = ready_at (plan_of a.image.now a.setup A.0) S a.store.now a.side a.rest a.found.t A.1 (key_of a.found.first) A.2 A.5 A.4
    c.slot_at.result c.load-p.result c.slot_at.ensures c.load-p.ensures in
    record { place = r.place; long = r.long; room = omega (arith, r.room) }

pub returns-in-Ok : goal.returns-in-Ok
returns-in-Ok c = λ start k n h M low.
    let a = c.args in
    let P = plan_of a.image.now a.setup start in
    let S = fitted a.image.now a.setup start h in
    let key = key_of a.found.first in
    grown P S a.store.now a.side a.rest a.found.t k key n M low
    c.slot_at.result c.load-p.result c.slot_at.ensures c.load-p.ensures _ _
    (c.in-Ok.ensures start a.rest h (ready_at P S a.store.now a.side a.rest a.found.t k key n M low c.slot_at.result c.load-p.result c.slot_at.ensures c.load-p.ensures))

-- the fault met is kept, or the one before it
module _ (first met : Met) where
  kept_key : (first.at < met.at) ⊎ ((first.at ≡ met.at) × (fault_number first.fault ≤ fault_number met.fault)) → key_of (Some first) ≤ key_of (Some met)
  kept_key d = let u = fault_lt first.fault in ⊎_elim (λ x. omega (arith, x)) (λ x. omega (arith, x.0, x.1)) d

  met_key : ¬ ((first.at < met.at) ⊎ ((first.at ≡ met.at) × (fault_number first.fault ≤ fault_number met.fault))) → key_of (Some met) ≤ key_of (Some first)
  met_key d =
      let u = fault_lt met.fault in
      let x : ¬ (first.at < met.at) = λ l. d (inl l) in
      elim (ℕ_discrete first.at met.at) [
        | yes e ↦ let y : ¬ (fault_number first.fault ≤ fault_number met.fault) = λ l. d (inr (e, l)) in omega arith
        | no n ↦ omega arith
      ]

-- whatever level it is met in
module _ (image : List ℕ) (su : Setup) (s : List ℕ) (side : Bool) (rest t key at p : ℕ)
    (lies : at ≡ slot (not side) (base_of su.size) (cap_of su.size) rest) (load : p ≡ entry_at s at) where
  weighed : (s' : List ℕ) (f : Fault) (key' : ℕ)
      → ((start r : ℕ) → start < places_of su.size → Ready (plan_of image su start) s r t p → (as_step (way_of image su p) ≡ Step.faulty f) × (s' ≡ s))
      → key' ≤ key → key' ≤ key_at (address_of su.size p) (fault_number f) → (key' ≡ key_at (address_of su.size p) (fault_number f)) ⊎ (key' ≡ key)
      → (start k c : ℕ) → start < places_of su.size → Mid (plan_of image su start) s side (rest + 1) t k key c → key ≤ none
      → Next (plan_of image su start) s s' side rest t k key' c
  weighed s' f key' blames h₁ h₂ d start k c h M low =
      let P = plan_of image su start in
      let S = fitted image su start h in
      blame_next P S s side rest t k key c M low at p lies load s' f key'
      (blames start rest h (ready_at P S s side rest t k key c M low at p lies load)) h₁ h₂ d

pub returns-in-Some : goal.returns-in-Some
returns-in-Some c =
    let a = c.args in
    let old : key_of a.found.first ≡ key_of (Some c.in-Some.first) = ap key_of c.in-Some.is in
    let below = kept_key c.in-Some.first (record { at = c.address_of.result; fault = c.in-Err.fault }) (c.is_before.ensures.0 c.if-is_before.true) in
    weighed a.image.now a.setup a.store.now a.side a.rest a.found.t (key_of a.found.first) c.slot_at.result c.load-p.result
    c.slot_at.ensures c.load-p.ensures _ c.in-Err.fault _ c.in-Err.ensures
    (omega arith) (omega (arith, c.address_of.ensures.0)) (inr refl)

pub returns-in_default : goal.returns-in_default
returns-in_default c =
    let a = c.args in
    let old : key_of a.found.first ≡ key_of (Some c.in-Some.first) = ap key_of c.in-Some.is in
    let below = met_key c.in-Some.first (record { at = c.address_of.result; fault = c.in-Err.fault }) (λ d. false≢true (c.if-is_before.ensures.1 d)) in
    weighed a.image.now a.setup a.store.now a.side a.rest a.found.t (key_of a.found.first) c.slot_at.result c.load-p.result
    c.slot_at.ensures c.load-p.ensures _ c.in-Err.fault _ c.in-Err.ensures
    (omega arith) (omega (arith, c.address_of.ensures.0)) (inl (omega (arith, c.address_of.ensures.0)))

pub returns-in_default-2 : goal.returns-in_default-2
returns-in_default-2 c =
    let a = c.args in
    let old : key_of a.found.first ≡ none = ap key_of c.in_default.is in
    weighed a.image.now a.setup a.store.now a.side a.rest a.found.t (key_of a.found.first) c.slot_at.result c.load-p.result
    c.slot_at.ensures c.load-p.ensures _ c.in-Err.fault _ c.in-Err.ensures
    (omega (arith, c.address_of.ensures.1.short, fault_lt c.in-Err.fault))
    (omega (arith, c.address_of.ensures.0)) (inl (omega (arith, c.address_of.ensures.0)))
