-- Advancing over sights and then over more. Assumes nothing.
use Prim.Native.Nat.{ℕ, ◌+◌}
use native.Mathlib.Omega.{arith}
use mathlib.Core.Path.{◌≡◌, refl, ap, ◌∙◌}
use mathlib.Core.Bool.{Bool, true, false}
use mathlib.Core.List.{List, ◌++◌}
use Rattle.unit_head.specs.Head.{DisplayUnit, unit, with_state}
use Rattle.unit_head.specs.declared.State.{State}
use Rattle.unit_step.specs.Run.{onward, steps_from, steps_done, beyond}
use Rattle.unit_step.specs.declared.Stepped.{Stepped}
use Rattle.unit_step.specs.declared.Stepped.TheVariants.{Goes, Stops}
use Rattle.unit_step.proofs.Laws.{steps_append, done_append, all_run}
use Rattle.unit_advance.specs.Advance.{progress_by, progress_over, all_sights, AdvanceEnd, advanced_by, gone_over}
use Rattle.console_run.proofs.Laws.{stop_number_lem}
use Rattle.console_run.proofs.Turning.{all_first, all_second, advance_all}
use Rattle.theorem_run.specs.Joined.{counted_on, then_over, AdvanceJoined}

module _ (u : DisplayUnit) (a c : List ℕ) (all : all_sights c ≡ true) where
  abbrev words : List ℕ
  words = u.words

  abbrev start : State
  start = u.head.state

  abbrev before : ℕ
  before = steps_done words a start

  -- the steps over more are counted on
  counted_by : (x : State) (m : ℕ) (st : Stepped)
      → let e : AdvanceEnd = advanced_by (unit words (with_state u.head x)) (progress_by m st) in
      advanced_by u (progress_by (before + m) st) ≡ record { unit = e.unit; answer = counted_on before e.answer }
  counted_by x m (Goes y) = refl
  counted_by x m (Stops y e) = refl

  joined_by : start.running ≡ true → (st : Stepped) → steps_from words a start ≡ st
      → advanced_by u (progress_by (before + beyond 0 (λ x. steps_done words c x) st) (onward st (λ x. steps_from words c x)))
      ≡ then_over c (advanced_by u (progress_by before st)).unit (advanced_by u (progress_by before st)).answer
  unfolding gone_over progress_over
  joined_by runs (Goes x) e =
      rw (advance_all (unit words (with_state u.head x)) c all)
      (simp (all_run words a start x e ∙ runs) (counted_by x (steps_done words c x) (steps_from words c x)))
  joined_by runs (Stops x e) k =
      let same : before + 0 ≡ before = omega arith in
      simp (stop_number_lem e) (ap (λ (n : ℕ). advanced_by u (progress_by n (Stops x e))) same)

  gone_by : (t : Bool) → start.running ≡ t → gone_over u (a ++ c) ≡ then_over c (gone_over u a).unit (gone_over u a).answer
  unfolding gone_over progress_over
  gone_by true r = simp (r, steps_append words c a start, done_append words c a start) (joined_by r (steps_from words a start) refl)
  gone_by false r = simp r

pub advance_joined : AdvanceJoined
advance_joined u sights more h =
    rw (advance_all u (sights ++ more) h)
    (rw (advance_all u sights (all_first sights more h)) (gone_by u sights more (all_second sights more h) u.head.state.running refl))
