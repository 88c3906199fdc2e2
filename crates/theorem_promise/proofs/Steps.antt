-- One step of a unit within the walks of an image that passed: it meets no fault and no bad parity, and stays within the walks. Assumes nothing.
use Prim.Native.Nat.{ℕ, suc}
use native.Mathlib.Omega.{arith}
use mathlib.Core.Path.{◌≡◌, refl, sym, ◌∙◌, subst, ap}
use mathlib.Core.Logic.{inl, inr}
use mathlib.Core.Bool.{Bool, true, false, false≢true}
use mathlib.Core.List.{List}
use Rattle.ground_setup.specs.declared.Setup.{Setup}
use Rattle.ground_orders.specs.declared.Mode.TheVariants.{Idle}
use Rattle.ground_groups.specs.Groups.{image_group}
use Rattle.std.specs.Prelude.{None, Option, Some}
use Rattle.ground_look.specs.Look.{look_of}
use Rattle.ground_look.specs.declared.Fault.{Fault}
use Rattle.ground_look.specs.Loaded.{Carries}
use Rattle.ground_look.proofs.Loaded.{same_look}
use Rattle.ground_look.specs.declared.Look.{Look}
use Rattle.ground_look.specs.declared.Look.TheVariants as look
use Rattle.unit_motion.specs.Motion.{beam_after}
use Rattle.unit_pen.specs.Pen.{seen_of, transfers}
use Rattle.validator_walks.specs.Places.{place}
use Rattle.validator_walks.specs.Steps.{Step, Leads, step_by, step_of}
use Rattle.validator_walks.specs.Walks.{Reach, Reached}
use Rattle.validator_walks.proofs.Looks.{no_check}
use Rattle.validator_walks.specs.declared.Place.{Place}
use Rattle.unit_drawing.specs.declared.Hit.{Hit}
use Rattle.unit_head.specs.declared.State.{State}
use Rattle.unit_step.specs.Step.{look_at, motion_at, step_to, step_over, step_from, hit_by, either_by}
use Rattle.unit_step.specs.declared.Stop.{Stop}
use Rattle.unit_step.specs.declared.Stop.TheVariants as stop
use Rattle.unit_step.specs.declared.Stepped.{Stepped}
use Rattle.unit_step.specs.declared.Stepped.TheVariants as stepped
use Rattle.unit_advance.specs.Advance.{stop_number}
use Rattle.theorem_promise.specs.Promise.{SoundEnd}

-- a stop is sound
abbrev pub Sound : Stop → Type 0
Sound e = SoundEnd (stop_number e)

sound_order : Sound stop.EndOrder
sound_order = record { no_fault = λ a b. omega arith; no_check = λ e. omega arith }

sound_detect : Sound stop.Detect
sound_detect = record { no_fault = λ a b. omega arith; no_check = λ e. omega arith }

module _ (image : List ℕ) (su : Setup) (start : ℕ) where
  -- no walk, however long, meets a fault
  abbrev pub Clear : Type 0
  Clear = (k : ℕ) (p : Place) (f : Fault) → Reach (step_of image su) (place start Idle) k p → step_of image su p ≡ Step.faulty f → ⊥

  -- where a state runs, some walk from the start reaches its place
  pub record Within (s : State) : Type 0 where
    pub same : s.running ≡ true → s.setup ≡ su
    pub reached : s.running ≡ true → Reached (step_of image su) (place start Idle) (place s.address s.mode)

  -- what a step leaves: it goes on within the walks, or stops soundly
  abbrev pub Kept : Stepped → Type 0
  Kept (stepped.Goes s) = (s.running ≡ true) × Within s
  Kept (stepped.Stops s e) = Sound e × Within s

  pub stood : (s : State) → s.running ≡ false → Within s
  stood s r = record { same = λ t. absurd (false≢true (sym r ∙ t)); reached = λ t. absurd (false≢true (sym r ∙ t)) }

  module _ (clear : Clear) (s : State) (runs : s.running ≡ true) (same : s.setup ≡ su) (k : ℕ) (here : Reach (step_of image su) (place start Idle) k (place s.address s.mode)) where
    -- a place that the step from here leads to is reached
    onward : (q : Place) → Leads (step_of image su (place s.address s.mode)) q → Reached (step_of image su) (place start Idle) q
    onward q l = (suc k, (place s.address s.mode, here, l))

    goes : (l : Look) → step_of image su (place s.address s.mode) ≡ step_by s.mode l → (q : Place) → Leads (step_by s.mode l) q → Reached (step_of image su) (place start Idle) q
    goes l e q leads = onward q (subst (λ (t : Step Fault Place). Leads t q) (sym e) leads)

    either_kept : (t next : ℕ) → step_of image su (place s.address s.mode) ≡ step_by s.mode (look.Either t next) → (b : Bool) → Kept (either_by s t next b)
    either_kept t next e true = (runs, record { same = λ r. same; reached = λ r. goes (look.Either t next) e (place t Idle) (inl refl) })
    either_kept t next e false = (runs, record { same = λ r. same; reached = λ r. goes (look.Either t next) e (place next Idle) (inr refl) })

    kept_by : (h : Option Hit) (l : Look) → look_of (image_group image su) su s.address s.mode ≡ l → step_of image su (place s.address s.mode) ≡ step_by s.mode l → Kept (step_to s (beam_after (motion_at l s) s.beam) h l)
    kept_by h (look.Fault f) e w = absurd (clear k _ f here w)
    kept_by h (look.Check a) e w = absurd (no_check image su s.address s.mode a e)
    kept_by h (look.Enter m next) e w = (runs, record { same = λ r. same; reached = λ r. goes (look.Enter m next) w (place next m) refl })
    kept_by h (look.Pass next) e w = (runs, record { same = λ r. same; reached = λ r. goes (look.Pass next) w (place next Idle) refl })
    kept_by h (look.Timer next) e w = (runs, record { same = λ r. same; reached = λ r. goes (look.Timer next) w (place next Idle) refl })
    kept_by h (look.SetPen p next) e w = (runs, record { same = λ r. same; reached = λ r. goes (look.SetPen p next) w (place next Idle) refl })
    kept_by h (look.End next) e w = (sound_order, stood _ refl)
    kept_by h (look.Jump t) e w = (runs, record { same = λ r. same; reached = λ r. goes (look.Jump t) w (place t Idle) refl })
    kept_by h (look.Either t next) e w = either_kept t next w (transfers s.pen)
    kept_by None (look.Two a b next) e w = (runs, record { same = λ r. same; reached = λ r. goes (look.Two a b next) w (place next s.mode) refl })
    kept_by (Some h) (look.Two c d next) e w = (sound_detect, stood _ refl)
    kept_by None (look.Four a b c d next) e w = (runs, record { same = λ r. same; reached = λ r. goes (look.Four a b c d next) w (place next s.mode) refl })
    kept_by (Some h) (look.Four c d f g next) e w = (sound_detect, stood _ refl)

    -- a step with any sight
    pub step_kept : (words : List ℕ) → Carries words image → (sight : ℕ) → Kept (step_from words s sight)
    unfolding step_from step_over step_of
    step_kept words carries sight =
        let l : Look = look_at words s in
        let at-image = same_look words image carries su s.address s.mode (λ f. clear k _ _ here (ap (step_by s.mode) f)) in
        let e : look_of (image_group image su) su s.address s.mode ≡ l = rw same (sym at-image) in
        kept_by (hit_by s (motion_at l s) (seen_of s.pen sight)) l e (ap (step_by s.mode) e)
