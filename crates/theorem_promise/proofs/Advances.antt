-- Advancing of a unit within the walks of an image that passed: it ends soundly, and within the walks. Assumes nothing.
use Prim.Native.Nat.{ℕ}
use native.Mathlib.Omega.{arith}
use mathlib.Core.Path.{◌≡◌, refl}
use mathlib.Core.Bool.{Bool, true, false, cond}
use mathlib.Core.List.{List, [], ◌∷◌}
use Rattle.ground_setup.specs.declared.Setup.{Setup}
use Rattle.ground_look.specs.Loaded.{Carries}
use Rattle.ground_words.proofs.Laws.{either_way}
use Rattle.unit_head.specs.declared.State.{State}
use Rattle.unit_head.specs.Head.{DisplayUnit}
use Rattle.unit_step.specs.Step.{step_from}
use Rattle.unit_step.specs.Run.{onward, steps_from, steps_done}
use Rattle.unit_step.specs.declared.Stepped.{Stepped}
use Rattle.unit_step.specs.declared.Stepped.TheVariants as stepped
use Rattle.unit_advance.specs.Advance.{progress, progress_by, progress_over, all_sights, AdvanceEnd, advanced_by, gone_over, unit_advance}
use Rattle.unit_advance.specs.declared.End.TheVariants.{NotRunning}
use Rattle.theorem_promise.specs.Promise.{SoundEnd, SoundAnswer}
use Rattle.theorem_promise.proofs.Steps.{Clear, Within, Kept, step_kept}

-- the ends that no step makes
sound_used : SoundEnd 0
sound_used = record { no_fault = λ a b. omega arith; no_check = λ e. omega arith }

sound_stood : SoundEnd 10
sound_stood = record { no_fault = λ a b. omega arith; no_check = λ e. omega arith }

module _ (image : List ℕ) (su : Setup) (start : ℕ) (clear : Clear image su start) where
  -- several steps
  steps_kept : (words : List ℕ) → Carries words image → (sights : List ℕ) (s : State) → s.running ≡ true → Within image su start s
      → Kept image su start (steps_from words sights s)
  unfolding steps_from
  steps_kept words carries [] s r w = (r, w)
  steps_kept words carries (g ∷ gs) s r w =
      by (λ x k h. steps_kept words carries gs x k h) (step_from words s g)
      (step_kept image su start clear s r (w.same r) (w.reached r).0 (w.reached r).1 words carries g)
    where
      by : ((x : State) → x.running ≡ true → Within image su start x → Kept image su start (steps_from words gs x)) → (st : Stepped)
          → Kept image su start st → Kept image su start (onward st (λ x. steps_from words gs x))
      by more (stepped.Goes x) k = more x k.0 k.1
      by more (stepped.Stops x e) k = k

  -- a unit within the walks that, where it runs, carries the image
  pub record Safe (u : DisplayUnit) : Type 0 where
    pub carries : u.head.state.running ≡ true → Carries u.words image
    pub within : Within image su start u.head.state

  -- advancing of a unit
  module _ (u : DisplayUnit) (safe : Safe u) (sights : List ℕ) where
    abbrev Fine : AdvanceEnd → Type 0
    Fine r = SoundAnswer r.answer × Safe r.unit

    over_fine : u.head.state.running ≡ true → Fine (advanced_by u (progress_over u.words sights u.head.state))
    unfolding progress_over
    over_fine r =
        by (steps_from u.words sights u.head.state) (steps_kept u.words (safe.carries r) sights u.head.state r safe.within)
      where
        by : (st : Stepped) → Kept image su start st → Fine (advanced_by u (progress_by (steps_done u.words sights u.head.state) st))
        by (stepped.Goes x) k = (sound_used, record { carries = λ t. safe.carries r; within = k.1 })
        by (stepped.Stops x e) k = (k.0, record { carries = λ t. safe.carries r; within = k.1 })

    running_by : (t : Bool) → u.head.state.running ≡ t
        → Fine (advanced_by u (cond t (progress_over u.words sights u.head.state) (progress u.head.state 0 NotRunning)))
    running_by true r = over_fine r
    running_by false r = (sound_stood, record { carries = safe.carries; within = safe.within })

    pub advance_fine : Fine (unit_advance u sights)
    unfolding unit_advance gone_over
    advance_fine = either_way Fine (all_sights sights) (running_by u.head.state.running refl) (tt, safe)
