-- A step of a well-made state that runs, and several, leave a well-made state of the same setup. Assumes nothing.
use Rattle.std.specs.Prelude.{None, Option, Some}
use Prim.Native.Nat.{ℕ, ◌<◌}
use mathlib.Core.Path.{◌≡◌, refl, sym, ◌∙◌}
use mathlib.Core.Logic.{inl, inr}
use mathlib.Core.Bool.{Bool, true, false, false≢true}
use mathlib.Core.List.{List, [], ◌∷◌}
use Rattle.ground_look.specs.declared.Look.{Look}
use Rattle.ground_look.specs.declared.Look.TheVariants as look
use Rattle.ground_setup.specs.Setup.{size_of}
use Rattle.ground_orders.specs.declared.Mode.{Mode}
use Rattle.ground_orders.specs.declared.Mode.TheVariants.{Idle}
use Rattle.unit_motion.specs.Motion.{beam_after}
use Rattle.unit_pen.specs.Pen.{seen_of, transfers}
use Rattle.unit_pen.specs.declared.Pen.{Pen}
use Rattle.validator_walks.specs.declared.Place.{Place}
use Rattle.validator_walks.specs.Places.{place, Proper}
use Rattle.validator_walks.specs.Steps.{Leads, step_by}
use Rattle.validator_walks.proofs.Looks.{look_sound}
use Rattle.ground_groups.specs.Groups.{words_group}
use Rattle.unit_drawing.specs.Drawing.{strokes_of}
use Rattle.unit_drawing.specs.declared.Hit.{Hit}
use Rattle.unit_head.specs.declared.State.{State}
use Rattle.unit_step.specs.declared.Stepped.{Stepped}
use Rattle.unit_step.specs.declared.Stepped.TheVariants as stepped
use Rattle.unit_step.specs.Step.{look_at, motion_at, data_to, either_by, step_to, hit_by, step_over, step_from}
use Rattle.unit_step.specs.Run.{onward, steps_from, steps_done}
use Rattle.unit_advance.specs.declared.End.{End}
use Rattle.unit_advance.specs.Advance.{progress_by, progress_over, status_after}
use Rattle.theorem_wellmade.specs.WellMade.{PenMade, StateMade}
use Rattle.theorem_wellmade.proofs.Beams.{beam_after_made}
use Rattle.theorem_wellmade.proofs.Pens.{ordered_made, timed_made, detected_made, transferred_made}
use Rattle.theorem_wellmade.proofs.Looks.{LookMade, look_made, motion_made}
use Rattle.theorem_wellmade.proofs.Strokes.{strokes_made, HitMade, hit_made}

-- a well-made state of the same setup
pub record StepsOn (s s' : State) : Type 0 where
  pub same : s'.setup ≡ s.setup
  pub made : StateMade s'

-- a step goes on with a unit that runs, or stops it
abbrev SteppedMade : State → Stepped → Type 0
SteppedMade s (stepped.Goes s') = (s'.running ≡ true) × StepsOn s s'
SteppedMade s (stepped.Stops s' e) = (s'.running ≡ false) × StepsOn s s'

module _ (s : State) (m : StateMade s) (runs : s.running ≡ true) where
  -- on to a place of the buffer, with the beam where it was
  goes : {a : ℕ} {mode : Mode} {pen : Pen} → Proper s.setup.size (place a mode) → PenMade pen
      → SteppedMade s (stepped.Goes (record { setup = s.setup; address = a; mode = mode; running = s.running; beam = s.beam; pen = pen }))
  goes h p = (runs, record { same = refl; made = record { address = h.inside; even = λ r. h.even; beam = m.beam; pen = p } })

  -- stopped at an address of the buffer
  stops : {a : ℕ} {mode : Mode} → a < size_of s.setup.size
      → (◌≡◌ {A = Bool} false false) × StepsOn s (record { setup = s.setup; address = a; mode = mode; running = false; beam = s.beam; pen = s.pen })
  stops h = (refl, record { same = refl; made = record { address = h; even = λ r. absurd (false≢true r); beam = m.beam; pen = m.pen } })

  -- each place that the look leads to is one of the buffer
  module _ (l : Look) (sound : (q : Place) → Leads (step_by s.mode l) q → Proper s.setup.size q) (k : LookMade s.setup.size l) where
    data_made : (next : ℕ) (h : Option Hit) → Proper s.setup.size (place next s.mode) → HitMade s.setup.size h → SteppedMade s (data_to s (beam_after (motion_at l s) s.beam) next h)
    data_made next None n h =
        (runs, record { same = refl; made = record { address = n.inside; even = λ r. n.even; beam = beam_after_made (motion_at l s) s.beam (motion_made s.setup.size l s.mode s.beam k) m.beam; pen = m.pen } })
    data_made next (Some x) n h =
        (refl, record { same = refl; made = record { address = h.0; even = λ r. absurd (false≢true r); beam = h.1; pen = detected_made s.pen m.pen } })

  either_made : (t next : ℕ) (b : Bool) → Proper s.setup.size (place t Idle) → Proper s.setup.size (place next Idle) → SteppedMade s (either_by s t next b)
  either_made t next true h k = goes h (transferred_made s.pen m.pen)
  either_made t next false h k = goes k m.pen

  step_by_lem : (h : Option Hit) (l : Look) → HitMade s.setup.size h → LookMade s.setup.size l
      → ((q : Place) → Leads (step_by s.mode l) q → Proper s.setup.size q)
      → SteppedMade s (step_to s (beam_after (motion_at l s) s.beam) h l)
  step_by_lem h (look.Fault f) k l sound = stops m.address
  step_by_lem h (look.Check a) k l sound = stops l
  step_by_lem h (look.Enter n next) k l sound = goes (sound (place next n) refl) m.pen
  step_by_lem h (look.Pass next) k l sound = goes (sound (place next Idle) refl) m.pen
  step_by_lem h (look.Timer next) k l sound = goes (sound (place next Idle) refl) (timed_made s.pen m.pen)
  step_by_lem h (look.SetPen p next) k l sound = goes (sound (place next Idle) refl) (ordered_made s.pen p m.pen)
  step_by_lem h (look.End next) k l sound = stops l
  step_by_lem h (look.Jump target) k l sound = goes (sound (place target Idle) refl) m.pen
  step_by_lem h (look.Either target next) k l sound =
      either_made target next (transfers s.pen) (sound (place target Idle) (inl refl)) (sound (place next Idle) (inr refl))
  step_by_lem h (look.Two a b next) k l sound = data_made (look.Two a b next) sound l next h (sound (place next s.mode) refl) k
  step_by_lem h (look.Four a b c d next) k l sound = data_made (look.Four a b c d next) sound l next h (sound (place next s.mode) refl) k

  step_made : (words : List ℕ) (sight : ℕ) → SteppedMade s (step_from words s sight)
  unfolding step_from step_over
  step_made words sight =
      let l = look_at words s in
      let k = look_made s.setup words s.address s.mode in
      step_by_lem (hit_by s (motion_at l s) (seen_of s.pen sight)) l
      (hit_made s.setup.size (seen_of s.pen sight) (strokes_of (motion_at l s) s.beam false false s.setup.size s.address)
      (strokes_made s.setup.size (motion_at l s) s.beam false false s.address (motion_made s.setup.size l s.mode s.beam k) m.beam))
      k
      (look_sound s.setup (words_group words s.setup) s.address s.mode (m.even runs))

-- where advancing has come to: a well-made state; where it still runs, its end has set no status
pub record AdvanceMade (s s' : State) (e : End) : Type 0 where
  pub onto : StepsOn s s'
  pub quiet : s'.running ≡ true → (status : ℕ) → status_after e status ≡ status

-- several steps
steps_made : (words sights : List ℕ) (s : State) → s.running ≡ true → StateMade s → SteppedMade s (steps_from words sights s)
unfolding steps_from
steps_made words [] s r m = (r, record { same = refl; made = m })
steps_made words (g ∷ gs) s r m = by (λ x k h. steps_made words gs x k h) (step_from words s g) (step_made s m r words g)
  where
    then : (s' : State) → StepsOn s s' → (st : Stepped) → SteppedMade s' st → SteppedMade s st
    then s' on (stepped.Goes x) h = (h.0, record { same = h.1.same ∙ on.same; made = h.1.made })
    then s' on (stepped.Stops x e) h = (h.0, record { same = h.1.same ∙ on.same; made = h.1.made })

    by : ((x : State) → x.running ≡ true → StateMade x → SteppedMade x (steps_from words gs x)) → (st : Stepped) → SteppedMade s st
        → SteppedMade s (onward st (λ x. steps_from words gs x))
    by more (stepped.Goes x) h = then x h.1 (steps_from words gs x) (more x h.0 h.1.made)
    by more (stepped.Stops x e) h = h

pub advance_made : (words sights : List ℕ) (s : State) → s.running ≡ true → StateMade s
    → AdvanceMade s (progress_over words sights s).state (progress_over words sights s).end
unfolding progress_over
advance_made words sights s r m = by (steps_from words sights s) (steps_made words sights s r m)
  where
    by : (st : Stepped) → SteppedMade s st → AdvanceMade s (progress_by (steps_done words sights s) st).state (progress_by (steps_done words sights s) st).end
    by (stepped.Goes x) h = record { onto = h.1; quiet = λ k status. refl }
    by (stepped.Stops x e) h = record { onto = h.1; quiet = λ k status. absurd (false≢true (sym h.0 ∙ k)) }
