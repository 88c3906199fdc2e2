-- A stretch as far as it has come, and one step of plain data more. Assumes nothing.
use Prim.Native.Nat.{ℕ, ◌+◌, ◌<◌}
use native.Mathlib.Omega.{arith}
use mathlib.Core.Path.{◌≡◌, refl, sym, ap, subst, ◌∙◌}
use mathlib.Core.Bool.{true, false, false≢true}
use mathlib.Core.List.{List}
use lib.ListN.{length, drop, get_or}
use Rattle.ground_location.specs.Location.{data_of}
use Rattle.ground_look.specs.Look.{placing}
use Rattle.ground_orders.specs.declared.Mode.{Mode}
use Rattle.ground_orders.specs.declared.Mode.TheVariants as mode
use Rattle.unit_beam.specs.declared.Beam.{Beam}
use Rattle.unit_pen.specs.Pen.{seen_of}
use Rattle.unit_motion.specs.Motion.{two_of, beam_after, data_motion}
use Rattle.unit_motion.specs.declared.Motion.{Motion}
use Rattle.unit_motion.specs.declared.Motion.TheVariants.{Still}
use Rattle.unit_drawing.specs.Drawing.{strokes_of, hit_in}
use Rattle.std.proofs.Common.{None}
use Rattle.unit_drawing.proofs.Laws.{unseen}
use Rattle.unit_head.specs.declared.State.{State}
use Rattle.unit_step.specs.Step.{beamed, hit_by, step_from}
use Rattle.unit_step.specs.Run.{GoesOver, is_idle, idle_steps}
use Rattle.unit_step.specs.declared.Stepped.TheVariants.{Goes}
use Rattle.unit_step.proofs.Laws.{over_none, over_more, idle_goes}
use Rattle.unit_plain.specs.Plain.{clear_below, plain_data, span_of}
use Rattle.unit_plain.proofs.Laws.{plain_goes}
use Rattle.unit_stretch.specs.declared.Stretch.{Stretch}
use Rattle.unit_stretch.specs.Stretch.{Reaches}

-- A STRETCH AS FAR AS IT HAS COME: i steps from the state s, to x
pub record Covered (words sights : List ℕ) (s : State) (i : ℕ) (x : State) : Type 0 where
  -- only the address and the beam have moved
  pub same : x ≡ beamed s x.address x.beam
  -- the steps go on
  pub gone : GoesOver words sights s i x
  -- in idle mode all of them are steps from idle mode
  pub idle : is_idle s.mode ≡ true → idle_steps words sights s ≡ i + idle_steps words (drop i sights) x

idle_is : (m : Mode) → is_idle m ≡ true → m ≡ mode.Idle
idle_is mode.Idle e = refl
idle_is mode.Point e = absurd (false≢true e)
idle_is mode.Vector e = absurd (false≢true e)
idle_is mode.IncrementalPoint e = absurd (false≢true e)
idle_is mode.IncrementalVector e = absurd (false≢true e)
idle_is mode.Basic e = absurd (false≢true e)
idle_is mode.Large e = absurd (false≢true e)

module _ (words sights : List ℕ) (s : State) where
  pub covered_none : Covered words sights s 0 s
  covered_none = record { same = refl; gone = over_none words sights s; idle = λ e. omega arith }

  pub covered_reaches : (r : Stretch) → Covered words sights s r.steps r.state → Reaches words sights s r
  covered_reaches r c = record { gone = c.gone; idle = c.idle; stays = ap (λ (x : State). x.mode) c.same }

  module _ (i : ℕ) (h : i < length sights) where
    -- one step that goes on
    covered_more : (x y : State) → Covered words sights s i x → y ≡ beamed s y.address y.beam → step_from words x (get_or sights i 0) ≡ Goes y
        → Covered words sights s (i + 1) y
    covered_more x y c e g =
        record {
          same = e;
          gone = over_more words sights s i x c.gone h y g;
          idle = λ q.
              let still : is_idle x.mode ≡ true = ap (λ (z : State). is_idle z.mode) c.same ∙ q in
              omega (arith, c.idle q, idle_goes words sights i x h still y g);
        }

    module _ (x : State) (c : Covered words sights s i x) (near : x.address < clear_below s.setup.size (length words)) where
      -- the step over the data ahead, from where the stretch has come to
      abbrev here : State
      here = beamed s x.address x.beam

      abbrev motion_here : Motion
      motion_here =
          data_motion s.mode (data_of (get_or words x.address 0)) (data_of (get_or words (x.address + 1) 0)) (data_of (get_or words (x.address + 2) 0))
          (data_of (get_or words (x.address + 3) 0)) x.beam

      -- from x as from there
      as_here : (a : ℕ) (b : Beam) → Covered words sights s (i + 1) (beamed s a b) → Covered words sights s (i + 1) (beamed x a b)
      as_here a b k = subst (λ (z : State). Covered words sights s (i + 1) z) (sym (ap (λ (z : State). beamed z a b) c.same)) k

      step_over_lem : plain_data (placing s.mode) (get_or words x.address 0) (get_or words (x.address + 1) 0) (get_or words (x.address + 2) 0) (get_or words (x.address + 3) 0) ≡ true
          → hit_by here motion_here (seen_of s.pen (get_or sights i 0)) ≡ None
          → Covered words sights s (i + 1) (beamed s (x.address + span_of (placing s.mode)) (beam_after motion_here x.beam))
      step_over_lem p m =
          covered_more x (beamed s (x.address + span_of (placing s.mode)) (beam_after motion_here x.beam)) c refl
          (subst (λ (z : State). step_from words z (get_or sights i 0) ≡ Goes (beamed s (x.address + span_of (placing s.mode)) (beam_after motion_here x.beam))) (sym c.same)
          (plain_goes words here (omega arith) p (get_or sights i 0) m))

      -- in idle mode nothing is drawn
      idle_motion : is_idle s.mode ≡ true → motion_here ≡ Still
      unfolding two_of
      idle_motion e =
          ap (λ (m : Mode). data_motion m (data_of (get_or words x.address 0)) (data_of (get_or words (x.address + 1) 0)) (data_of (get_or words (x.address + 2) 0)) (data_of (get_or words (x.address + 3) 0)) x.beam)
          (idle_is s.mode e)

      -- data of idle mode
      pub covered_passed : is_idle s.mode ≡ true → plain_data false (get_or words x.address 0) (get_or words (x.address + 1) 0) 0 0 ≡ true
          → Covered words sights s (i + 1) (beamed x (x.address + 2) x.beam)
      unfolding strokes_of hit_in beam_after
      covered_passed e p =
          let motion = idle_motion e in
          let placing_not : placing s.mode ≡ false = ap placing (idle_is s.mode e) in
          let k = step_over_lem (rw placing_not p) (rw motion refl) in
          as_here _ _ (rw (motion, placing_not) at k)

      -- data that move the beam, of which the pen sees nothing
      pub covered_moved : plain_data (placing s.mode) (get_or words x.address 0) (get_or words (x.address + 1) 0) (get_or words (x.address + 2) 0) (get_or words (x.address + 3) 0) ≡ true
          → seen_of s.pen (get_or sights i 0) ≡ 0
          → Covered words sights s (i + 1) (beamed x (x.address + span_of (placing s.mode)) (beam_after motion_here x.beam))
      covered_moved p z = as_here _ _ (step_over_lem p (rw z (unseen (strokes_of motion_here x.beam false false s.setup.size x.address))))
