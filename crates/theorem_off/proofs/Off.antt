-- What an increment that leaves the screen is told in. Assumes nothing.
use Prim.Native.Nat.{ℕ}
use mathlib.Core.Path.{◌≡◌, refl, sym, ap, subst, ◌∙◌}
use mathlib.Core.Bool.{Bool}
use mathlib.Core.List.{List, map}
use Rattle.ground_look.specs.declared.Look.{Look}
use Rattle.ground_look.specs.declared.Look.TheVariants as look
use Rattle.ground_orders.specs.declared.Mode.{Mode}
use Rattle.ground_orders.specs.declared.Mode.TheVariants as mode
use Rattle.unit_beam.specs.declared.Beam.{Beam}
use Rattle.unit_items.specs.Items.{off_number}
use Rattle.unit_motion.specs.Motion.{off_of, two_of, four_of, motion_of, beam_after}
use Rattle.unit_motion.specs.declared.Motion.TheVariants.{Still, To}
use Rattle.unit_motion.specs.declared.Moved.{Moved}
use Rattle.unit_motion.specs.declared.Moved.TheVariants.{Absolute}
use Rattle.unit_motion.specs.declared.Trace.{Trace}
use Rattle.unit_motion.specs.declared.Trace.TheVariants as trace
use Rattle.unit_drawing.specs.Drawing.{stroke, point_at, vector_at, trace_strokes, strokes_of, upto, hit_in}
use Rattle.std.specs.Prelude.{Option}
use Rattle.unit_drawing.specs.declared.Hit.{Hit}
use Rattle.unit_drawing.proofs.Laws.{upto_one}
use Rattle.ground_setup.specs.Setup.{wrap_of}
use Rattle.unit_cursor.specs.Cursor.{Buffer}
use Rattle.unit_head.specs.declared.State.{State}
use Rattle.unit_pen.specs.Pen.{seen_of}
use Rattle.unit_step.specs.Step.{look_at, motion_at, step_to, step_over, step_from, items_drawn}
use Rattle.theorem_off.specs.Off.{without_code, AllCarry, StepsTell, MarkAlone, StepsByMotion}

-- what coordinates draw carries their mark, whatever the sight
carried : (t : Trace) (beam to : Beam) (off : Bool) (at sight : ℕ) → AllCarry (off_number off) (upto sight (trace_strokes t beam to off at))
unfolding upto
carried trace.Blanked beam to off at sight = tt
carried trace.Point beam to off at sight = subst (AllCarry (off_number off)) (sym (upto_one sight (stroke (point_at to off at) to))) (refl, tt)
carried trace.Vector beam to off at sight = subst (AllCarry (off_number off)) (sym (upto_one sight (stroke (vector_at beam to off at) to))) (refl, tt)

module _ (b : Buffer) (s : State) (sight : ℕ) where
  -- what a step draws whose motion goes to a place
  by_motion : (k : Moved) (t : Trace) (to : Beam) → motion_at (look_at b.words s) s ≡ To k t to → AllCarry (off_number (off_of k)) (items_drawn b s sight)
  unfolding items_drawn strokes_of
  by_motion k t to e = rw e (carried t s.beam to (off_of k) (wrap_of s.setup.size s.address) (seen_of s.pen sight))

  by_rest : motion_at (look_at b.words s) s ≡ Still → AllCarry 0 (items_drawn b s sight)
  unfolding items_drawn strokes_of upto
  by_rest e = rw e tt

  -- coordinates are absolute, or in a mode that does not take them they move nothing
  by_four : (m : Mode) (x₁ x₂ y₁ y₂ : ℕ) → motion_at (look_at b.words s) s ≡ four_of m x₁ x₂ y₁ y₂ → AllCarry 0 (items_drawn b s sight)
  unfolding four_of
  by_four mode.Point x₁ x₂ y₁ y₂ e = by_motion Absolute _ _ e
  by_four mode.Vector x₁ x₂ y₁ y₂ e = by_motion Absolute _ _ e
  by_four mode.Idle x₁ x₂ y₁ y₂ e = by_rest e
  by_four mode.IncrementalPoint x₁ x₂ y₁ y₂ e = by_rest e
  by_four mode.IncrementalVector x₁ x₂ y₁ y₂ e = by_rest e
  by_four mode.Basic x₁ x₂ y₁ y₂ e = by_rest e
  by_four mode.Large x₁ x₂ y₁ y₂ e = by_rest e

-- two bytes in a mode
by_two : (words : List ℕ) (s : State) (x y next : ℕ) → look_at words s ≡ look.Two x y next → (m : Mode) → s.mode ≡ m → motion_at (look_at words s) s ≡ two_of m x y s.beam
unfolding motion_of
by_two words s x y next l m e = rw (l, e) refl

pub steps_tell : StepsTell
unfolding motion_of two_of
steps_tell b s sight =
    record {
      points = λ x y next e m. by_motion b s sight _ _ _ (by_two b.words s x y next e mode.IncrementalPoint m);
      vectors = λ x y next e m. by_motion b s sight _ _ _ (by_two b.words s x y next e mode.IncrementalVector m);
      absolute = λ x₁ x₂ y₁ y₂ next e. by_four b s sight s.mode x₁ x₂ y₁ y₂ (ap (λ (l : Look). motion_at l s) e);
    }

-- what it leaves and draws but for the code field
same_hit : (t : Trace) (beam to : Beam) (off off' : Bool) (at sight : ℕ) → hit_in sight (trace_strokes t beam to off at) ≡ hit_in sight (trace_strokes t beam to off' at)
unfolding hit_in
same_hit trace.Blanked beam to off off' at sight = refl
same_hit trace.Point beam to off off' at sight = refl
same_hit trace.Vector beam to off off' at sight = refl

same_items : (t : Trace) (beam to : Beam) (off off' : Bool) (at sight : ℕ)
    → map without_code (upto sight (trace_strokes t beam to off at)) ≡ map without_code (upto sight (trace_strokes t beam to off' at))
same_items trace.Blanked beam to off off' at sight = refl
same_items trace.Point beam to off off' at sight =
    ap (map without_code) (upto_one sight (stroke (point_at to off at) to)) ∙ sym (ap (map without_code) (upto_one sight (stroke (point_at to off' at) to)))
same_items trace.Vector beam to off off' at sight =
    ap (map without_code) (upto_one sight (stroke (vector_at beam to off at) to)) ∙ sym (ap (map without_code) (upto_one sight (stroke (vector_at beam to off' at) to)))

pub mark_alone : MarkAlone
unfolding strokes_of beam_after
mark_alone s l sight c0 c1 t to off off' =
    let at = wrap_of s.setup.size s.address in
    let seen = seen_of s.pen sight in
    record {
      same = ap (λ (h : Option Hit). step_to s to h l) (same_hit t s.beam to off off' at seen);
      alike = same_items t s.beam to off off' at seen;
    }

pub steps_by_motion : StepsByMotion
unfolding step_from step_over items_drawn
steps_by_motion b s sight = record { step = refl; items = refl }
