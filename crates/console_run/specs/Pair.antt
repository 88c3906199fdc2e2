-- A run with its list (02, C-21), "the two used together": what the next step draws is listed, and the unit advances by it. All that is said
-- here is said by what listing and advancing answer.
use Rattle.std.specs.Prelude.{ℕ, ◌+◌, cond, List, [], ◌∷◌, eqb, Err, Ok, Result}
use Rattle.ground_refusals.specs.Refusals.{refusal_number}
use Rattle.ground_refusals.specs.declared.Refusal.{Refusal}
use Rattle.unit_head.specs.declared.Head.{Head}
use Rattle.unit_head.specs.Head.{DisplayUnit, unit}
use Rattle.unit_advance.specs.Advance.{end_number, all_sights, AdvanceValues, AdvanceEnd, unit_advance}
use Rattle.unit_list.specs.List.{ListValues, ListEnd, unit_list}
use Rattle.console_run.specs.declared.Outcome.{Outcome}
use Rattle.console_run.specs.declared.Outcome.TheVariants as outcome
use Rattle.console_run.specs.declared.Ran.{Ran}

-- why a run ended: as advancing ended, or "9 items don't fit"
abbrev pub outcome_number : Outcome → ℕ
outcome_number (outcome.Ended e) = end_number e
outcome_number outcome.NoRoom = 9

-- a run's answer in 01's numbers: the steps done, why it ended, and how many items it listed; or the number of its refusal
pub data RunValues : Type 0 where
  ran : ℕ → ℕ → ℕ → RunValues
  refused : ℕ → RunValues

abbrev pub run_values : Result Ran Refusal → RunValues
run_values (Ok r) = RunValues.ran r.steps (outcome_number r.outcome) r.items
run_values (Err r) = RunValues.refused (refusal_number r)

-- what a run leaves: the unit, the answer, and the list lent
pub record RunEnd : Type 0 where
  pub unit : DisplayUnit
  pub answer : RunValues
  pub list : List ℕ

abbrev pub run_end : DisplayUnit → RunValues → List ℕ → RunEnd
run_end u answer list = record { unit = u; answer = answer; list = list }

-- the same of a call that leaves the words, the head and the list, and answers
abbrev pub run_ended : List ℕ → Head → Result Ran Refusal → List ℕ → RunEnd
run_ended words head r list = run_end (unit words head) (run_values r) list

-- by what advancing answers, with n steps done before and so many items held: on, or the end
abbrev pub advanced_to : ℕ → ℕ → List ℕ → (DisplayUnit → ℕ → RunEnd) → DisplayUnit → AdvanceValues → RunEnd
advanced_to n held list more u (AdvanceValues.advanced steps why) = cond (eqb why 0) (more u (n + steps)) (run_end u (RunValues.ran (n + steps) why held) list)
advanced_to n held list more u (AdvanceValues.refused k) = run_end u (RunValues.refused k) list

-- by what listing answers: on by the step, or 9. "After 9 the unit still runs at that place."
abbrev pub listed_to : DisplayUnit → ℕ → ℕ → List ℕ → (ℕ → RunEnd) → ListValues → RunEnd
listed_to u n held list more (ListValues.holds k) = more k
listed_to u n held list more ListValues.full = run_end u (RunValues.ran n 9 held) list
listed_to u n held list more (ListValues.refused k) = run_end u (RunValues.refused k) list

abbrev pub advances_by : AdvanceEnd → ℕ → ℕ → List ℕ → (DisplayUnit → ℕ → RunEnd) → RunEnd
advances_by e n held list more = advanced_to n held list more e.unit e.answer

abbrev pub lists_by : DisplayUnit → ListEnd → ℕ → ℕ → (ℕ → List ℕ → RunEnd) → RunEnd
lists_by u e n held more = listed_to u n held e.list (λ k. more k e.list) e.answer

-- step by step, one for each sight: the next step is listed, and then done
unfoldable pub pair_from : DisplayUnit → List ℕ → ℕ → ℕ → List ℕ → RunEnd
pair_from u [] n held list = advances_by (unit_advance u []) n held list (λ u' n'. run_end u' (RunValues.ran n' 0 held) list)
pair_from u (g ∷ gs) n held list =
    lists_by u (unit_list u g held list) n held
    (λ held' list'. advances_by (unit_advance u (g ∷ [])) n held' list' (λ u' n'. pair_from u' gs n' held' list'))

-- A RUN WITH ITS LIST: "8 before a run, over all its sights"
unfoldable pub pair_run : DisplayUnit → List ℕ → List ℕ → RunEnd
pair_run u sights list = cond (all_sights sights) (pair_from u sights 0 0 list) (run_end u (RunValues.refused 8) list)
