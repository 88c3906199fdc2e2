-- Advancing as far as it has come, by a stretch or a step more, and where it ends. Assumes nothing.
use Prim.Native.Nat.{ℕ, ◌+◌, ◌-◌, ◌≤◌, ◌<◌}
use native.Mathlib.Omega.{arith}
use mathlib.Core.Path.{◌≡◌, refl, sym, ap, subst, ◌∙◌}
use mathlib.Core.Bool.{Bool, true, false, cond, not, ◌&&◌, false≢true}
use mathlib.Core.List.{List}
use lib.ListN.{length, take, drop, get_or, length-drop, drop_of_length-le}
use lib.Seq.{take_all, drop-drop, length-take-le}
use Rattle.unit_head.specs.declared.State.{State}
use Rattle.unit_step.specs.Step.{step_from}
use Rattle.unit_step.specs.Run.{steps_at, GoesOver, is_idle, idle_steps}
use Rattle.unit_step.specs.declared.Stop.{Stop}
use Rattle.unit_step.specs.declared.Stepped.TheVariants.{Goes, Stops}
use Rattle.unit_step.proofs.Laws.{all_done, over_none, over_then, over_more, over_stops, over_stopped, idle_none, idle_goes, idle_stops}
use Rattle.unit_stretch.specs.Stretch.{Reaches}
use Rattle.unit_stretch.specs.declared.Stretch.{Stretch}
use Rattle.unit_advance.specs.declared.End.TheVariants.{SightsUsed, Stopped}
use Rattle.unit_advance.specs.Advance.{progress, progress_over, used_by}

-- ADVANCING AS FAR AS IT HAS COME: i steps from the state s, to x
pub record Going (words sights : List ℕ) (s : State) (idle : Bool) (i : ℕ) (x : State) : Type 0 where
  -- the steps go on
  pub gone : GoesOver words sights s i x
  -- where only idle steps are wanted, these are some of them
  pub used : idle ≡ true → idle_steps words sights s ≡ i + idle_steps words (drop i sights) x

-- the test whether advancing goes no further, answered no
pub goes_further : (idle : Bool) (t : Bool) → (idle && not t) ≡ false → idle ≡ true → t ≡ true
goes_further true true e q = refl
goes_further true false e q = absurd (false≢true (sym e))
goes_further false t e q = absurd (false≢true q)

-- and yes
pub goes_no_further : (idle : Bool) (t : Bool) → (idle && not t) ≡ true → (idle ≡ true) × (t ≡ false)
goes_no_further true true e = absurd (false≢true e)
goes_no_further true false e = (refl, refl)
goes_no_further false t e = absurd (false≢true e)

module _ (words sights : List ℕ) (s : State) (idle : Bool) where
  pub going_none : Going words sights s idle 0 s
  going_none = record { gone = over_none words sights s; used = λ q. omega arith }

  module _ (i : ℕ) (x : State) (g : Going words sights s idle i x) where
    -- a stretch more, over the sights that are left
    pub going_stretch : (r : Stretch) → (idle ≡ true → is_idle x.mode ≡ true) → Reaches words (take (length sights - i) (drop i sights)) x r
        → Going words sights s idle (i + r.steps) r.state
    going_stretch r ready k =
        let c : Reaches words (drop i sights) x r =
        subst (λ (l : List ℕ). Reaches words l x r) (take_all (length sights - i) (drop i sights) (omega (arith, length-drop i sights))) k in
        record {
          gone = over_then words sights s i x g.gone r.steps r.state c.gone;
          used = λ q.
              let rest : idle_steps words (drop r.steps (drop i sights)) r.state ≡ idle_steps words (drop (i + r.steps) sights) r.state =
              ap (λ (l : List ℕ). idle_steps words l r.state) (drop-drop r.steps i sights) in
              omega (arith, g.used q, c.idle (ready q));
        }

    -- a step more
    pub going_step : i < length sights → (idle ≡ true → is_idle x.mode ≡ true) → (y : State) → step_from words x (get_or sights i 0) ≡ Goes y
        → Going words sights s idle (i + 1) y
    going_step h ready y e =
        record {
          gone = over_more words sights s i x g.gone h y e;
          used = λ q. omega (arith, g.used q, idle_goes words sights i x h (ready q) y e);
        }

    -- all that are wanted are done
    used_up : used_by idle words sights s ≡ i → progress_over words (take (used_by idle words sights s) sights) s ≡ progress x i SightsUsed
    unfolding progress_over
    used_up e =
        let all = all_done words (take i sights) s x g.gone.goes ∙ length-take-le i sights g.gone.within in
        rw e (rw (all, g.gone.goes) refl)

    pub going_all : length sights ≤ i → progress_over words (take (used_by idle words sights s) sights) s ≡ progress x i SightsUsed
    unfolding idle_steps
    going_all h = used_up (by idle refl)
      where
        nothing : idle_steps words (drop i sights) x ≡ 0
        nothing = rw (drop_of_length-le sights h) refl

        by : (t : Bool) → idle ≡ t → cond t (idle_steps words sights s) (length sights) ≡ i
        by true q = omega (arith, g.used q, nothing)
        by false q = omega (arith, g.gone.within)

    pub going_over : idle ≡ true → is_idle x.mode ≡ false → progress_over words (take (used_by idle words sights s) sights) s ≡ progress x i SightsUsed
    going_over q e =
        used_up (ap (λ (t : Bool). cond t (idle_steps words sights s) (length sights)) q ∙ omega (arith, g.used q, idle_none words sights i x e))

    -- a step that stops the unit
    pub going_stops : i < length sights → (idle ≡ true → is_idle x.mode ≡ true) → (y : State) (e : Stop) → step_from words x (get_or sights i 0) ≡ Stops y e
        → progress_over words (take (used_by idle words sights s) sights) s ≡ progress y (i + steps_at e) (Stopped e)
    unfolding progress_over
    going_stops h ready y e k =
        rw (over_stopped words sights s i x g.gone h y e k (used_by idle words sights s) (by idle refl), over_stops words sights s i x g.gone h y e k (used_by idle words sights s) (by idle refl)) refl
      where
        by : (t : Bool) → idle ≡ t → i < cond t (idle_steps words sights s) (length sights)
        by true q = omega (arith, g.used q, idle_stops words sights i x h (ready q) y e k)
        by false q = h
