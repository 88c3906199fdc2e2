-- A step of the search goes by place and pen alone, and from a place of the buffer to a place of the buffer. Assumes nothing.
use Rattle.std.specs.Prelude.{None, Option, Some}
use Prim.Native.Nat.{ℕ, zero, suc}
use mathlib.Core.Path.{◌≡◌, refl, subst}
use mathlib.Core.Logic.{inl, inr}
use mathlib.Core.Bool.{Bool, true, false, cond}
use mathlib.Core.List.{List}
use Rattle.ground_setup.specs.declared.Setup.{Setup}
use Rattle.ground_orders.specs.declared.Mode.{Mode}
use Rattle.ground_orders.specs.declared.Mode.TheVariants.{Idle}
use Rattle.ground_groups.specs.Groups.{words_group}
use Rattle.ground_look.specs.declared.Look.{Look}
use Rattle.ground_look.specs.declared.Look.TheVariants as look
use Rattle.unit_beam.specs.declared.Beam.{Beam}
use Rattle.unit_motion.specs.Motion.{beam_after}
use Rattle.unit_pen.specs.Pen.{seen_of, detects, transfers}
use Rattle.validator_walks.specs.declared.Place.{Place}
use Rattle.validator_walks.specs.Places.{place, Proper}
use Rattle.validator_walks.specs.Steps.{Leads, step_by}
use Rattle.validator_walks.proofs.Looks.{look_sound}
use Rattle.unit_drawing.specs.Drawing.{strokes_of}
use Rattle.unit_drawing.proofs.Laws.{unseen}
use Rattle.unit_head.specs.declared.State.{State}
use Rattle.unit_step.specs.Step.{look_at, state_at, motion_at, hit_by, either_by, step_to, step_over, step_from}
use Rattle.unit_step.specs.declared.Stepped.{Stepped}
use Rattle.unit_step.specs.declared.Stepped.TheVariants as stepped
use Rattle.typing_jump.specs.Jump.{landing_by, stepped_by, hop_by, hop_of, jump_by, jump_from}
use Rattle.std.specs.declared.ops.ControlFlow.{ControlFlow}
use Rattle.std.specs.declared.ops.ControlFlow.TheVariants.{Break, Continue}
use Rattle.theorem_jump.specs.Jumps.{Same, ByPlaceAndPen}

-- no sight falls on no item
none_seen : (b : Bool) → ◌≡◌ {A = ℕ} (cond b 0 0) 0
none_seen true = refl
none_seen false = refl

no_sight : (s : State) (l : Look) → hit_by s (motion_at l s) (seen_of s.pen 0) ≡ None
unfolding seen_of
no_sight s l = rw (none_seen (detects s.pen)) (unseen (strokes_of (motion_at l s) s.beam false false s.setup.size s.address))

-- two steps of the search that end alike, or go on to the same place with the same pen
abbrev SameHop : ControlFlow (Option ℕ) State → ControlFlow (Option ℕ) State → Type 0
SameHop (Break p) (Break q) = p ≡ q
SameHop (Break p) (Continue t) = ⊥
SameHop (Continue s) (Break q) = ⊥
SameHop (Continue s) (Continue t) = Same s t

module _ (words : List ℕ) (s : State) (running : Bool) (beam : Beam) where
  -- the same state with another beam, running or not
  abbrev other : State
  other = record { setup = s.setup; address = s.address; mode = s.mode; running = running; beam = beam; pen = s.pen }

  enters : (m : Mode) (next : ℕ) (p : Option ℕ) → SameHop (hop_by (stepped.Goes (state_at s next m)) p) (hop_by (stepped.Goes (state_at other next m)) p)
  enters m next (Some a) = refl
  enters m next None = search

  either : (target next : ℕ) (b : Bool) → SameHop (stepped_by (either_by s target next b)) (stepped_by (either_by other target next b))
  either target next true = search
  either target next false = search

  by_look : (l : Look) → SameHop (hop_by (step_to s (beam_after (motion_at l s) s.beam) None l) (landing_by words s l)) (hop_by (step_to other (beam_after (motion_at l other) other.beam) None l) (landing_by words other l))
  by_look (look.Fault f) = refl
  by_look (look.Check a) = refl
  by_look (look.Enter m next) = enters m next (landing_by words s (look.Enter m next))
  by_look (look.Pass next) = search
  by_look (look.Timer next) = search
  by_look (look.SetPen p next) = search
  by_look (look.End next) = refl
  by_look (look.Jump target) = search
  by_look (look.Either target next) = either target next (transfers s.pen)
  by_look (look.Two a b next) = search
  by_look (look.Four a b c d next) = search

  other_hop : SameHop (hop_of words s) (hop_of words other)
  unfolding hop_of step_from step_over
  other_hop = rw (no_sight s (look_at words s), no_sight other (look_at words s)) (by_look (look_at words s))

same_hop : (words : List ℕ) (s t : State) → Same s t → SameHop (hop_of words s) (hop_of words t)
same_hop words s t h =
    let e : other words s t.running t.beam ≡ t = rw (h.setup, h.address, h.mode, h.pen) in
    subst (λ (x : State). SameHop (hop_of words s) (hop_of words x)) e (other_hop words s t.running t.beam)

jump_by_lem : (more : State → Option ℕ) → ((s t : State) → Same s t → more s ≡ more t) → (a b : ControlFlow (Option ℕ) State) → SameHop a b → jump_by more a ≡ jump_by more b
jump_by_lem more m (Break p) (Break q) h = h
jump_by_lem more m (Break p) (Continue t) h = absurd h
jump_by_lem more m (Continue s) (Break q) h = absurd h
jump_by_lem more m (Continue s) (Continue t) h = m s t h

pub by_place_and_pen : ByPlaceAndPen
unfolding jump_from
by_place_and_pen words s t h zero = refl
by_place_and_pen words s t h (suc n) =
    jump_by_lem (λ x. jump_from words n x) (λ x y k. by_place_and_pen words x y k n) (hop_of words s) (hop_of words t) (same_hop words s t h)

-- a state at a place of the buffer
pub record Placed (su : Setup) (s : State) : Type 0 where
  pub same : s.setup ≡ su
  pub proper : Proper su.size (place s.address s.mode)

-- what a step leaves, and what a step of the search leaves, where it goes on
abbrev PlacedStep : Setup → Stepped → Type 0
PlacedStep su (stepped.Goes t) = Placed su t
PlacedStep su (stepped.Stops t e) = Unit {0}

abbrev pub PlacedHop : Setup → ControlFlow (Option ℕ) State → Type 0
PlacedHop su (Break p) = Unit {0}
PlacedHop su (Continue t) = Placed su t

placed_by : (su : Setup) (a : Stepped) → PlacedStep su a → PlacedHop su (stepped_by a)
placed_by su (stepped.Goes t) h = h
placed_by su (stepped.Stops t e) h = tt

placed_hop_by : (su : Setup) (a : Stepped) (p : Option ℕ) → PlacedStep su a → PlacedHop su (hop_by a p)
placed_hop_by su a (Some x) h = tt
placed_hop_by su a None h = placed_by su a h

module _ (su : Setup) (s : State) (same : s.setup ≡ su) where
  placed_either : (target next : ℕ) (b : Bool) → Proper su.size (place target Idle) → Proper su.size (place next Idle) → PlacedStep su (either_by s target next b)
  placed_either target next true p q = record { same = same; proper = p }
  placed_either target next false p q = record { same = same; proper = q }

  placed_step : (l : Look) → ((q : Place) → Leads (step_by s.mode l) q → Proper su.size q) → PlacedStep su (step_to s (beam_after (motion_at l s) s.beam) None l)
  placed_step (look.Fault f) P = tt
  placed_step (look.Check a) P = tt
  placed_step (look.Enter m next) P = record { same = same; proper = P _ refl }
  placed_step (look.Pass next) P = record { same = same; proper = P _ refl }
  placed_step (look.Timer next) P = record { same = same; proper = P _ refl }
  placed_step (look.SetPen p next) P = record { same = same; proper = P _ refl }
  placed_step (look.End next) P = tt
  placed_step (look.Jump target) P = record { same = same; proper = P _ refl }
  placed_step (look.Either target next) P =
      placed_either target next (transfers s.pen) (P (place target Idle) (inl refl)) (P (place next Idle) (inr refl))
  placed_step (look.Two a b next) P = record { same = same; proper = P _ refl }
  placed_step (look.Four a b c d next) P = record { same = same; proper = P _ refl }

-- from a place of the buffer a step of the search goes on to one
pub placed_hop : (words : List ℕ) (su : Setup) (s : State) → Placed su s → PlacedHop su (hop_of words s)
unfolding hop_of step_from step_over
placed_hop words su s h =
    let l = look_at words s in
    placed_hop_by su (step_from words s 0) (landing_by words s l)
    (rw (no_sight s l)
    (placed_step su s h.same l
    (subst (λ (z : Setup). (q : Place) → Leads (step_by s.mode l) q → Proper z.size q) h.same
    (look_sound s.setup (words_group words s.setup) s.address s.mode h.proper.even))))
