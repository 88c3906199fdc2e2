-- A run as 01, "The pen", has it, advancing and listing in one: it "is given one sight per step and answers the steps done and why it ended, with its
-- drawn list". No call does this; `Together` says that the two calls do.
use Rattle.std.specs.Prelude.{ℕ, ◌+◌, cond, List, [], ◌∷◌, length, None, Option, Some}
use Rattle.unit_items.specs.Items.{listing, listed}
use Rattle.unit_cursor.specs.Cursor.{Buffer}
use Rattle.unit_head.specs.Head.{DisplayUnit, unit, buffer_of}
use Rattle.unit_head.specs.declared.State.{State}
use Rattle.unit_head.specs.declared.Sense.{Sense}
use Rattle.unit_head.specs.declared.Head.{Head}
use Rattle.unit_step.specs.Step.{step_from, items_drawn}
use Rattle.unit_step.specs.declared.Stop.{Stop}
use Rattle.unit_step.specs.declared.Stop.TheVariants as stop
use Rattle.unit_step.specs.declared.Stepped.{Stepped}
use Rattle.unit_step.specs.declared.Stepped.TheVariants as stepped
use Rattle.unit_advance.specs.Advance.{status_after, sense_after, all_sights}
use Rattle.unit_advance.specs.declared.End.TheVariants as end
use Rattle.console_run.specs.Pair.{outcome_number, RunValues, RunEnd, run_end}
use Rattle.console_run.specs.declared.Outcome.{Outcome}
use Rattle.console_run.specs.declared.Outcome.TheVariants.{Ended, NoRoom}

-- where a run has come to: the state, the steps done, why it ended, the items listed, and the list
pub record Course : Type 0 where
  pub state : State
  pub steps : ℕ
  pub outcome : Outcome
  pub items : ℕ
  pub list : List ℕ

abbrev pub course : State → ℕ → Outcome → ℕ → List ℕ → Course
course s n o items list = record { state = s; steps = n; outcome = o; items = items; list = list }

-- from s, with n steps done and so many items in the list; list' has what the step draws
module _ (s : State) (n items : ℕ) (list list' : List ℕ) where
  -- "9 items don't fit": the step is not done, and "the unit still runs at that place"
  abbrev pub no_room : Course
  no_room = course s n NoRoom items list

  -- a step that goes on, if what it draws fits
  abbrev pub gone_on : (State → ℕ → Course) → State → Option ℕ → Course
  gone_on more s' None = no_room
  gone_on more s' (Some k) = more s' k

  -- one that ends the run and counts, if what it draws fits
  abbrev pub ended_with : State → Stop → Option ℕ → Course
  ended_with s' e None = no_room
  ended_with s' e (Some k) = course s' (n + 1) (Ended (end.Stopped e)) k list'

  -- one that is not done
  abbrev pub not_done : State → Stop → Course
  not_done s' e = course s' n (Ended (end.Stopped e)) items list

  -- "Steps ended by 6 and 7 count; those ended by 1 to 5, 8 and 9 are not done"
  abbrev pub halted_by : State → Stop → Option ℕ → Course
  halted_by s' (stop.Fault f) l = not_done s' (stop.Fault f)
  halted_by s' stop.EndOrder l = ended_with s' stop.EndOrder l
  halted_by s' stop.Detect l = ended_with s' stop.Detect l
  halted_by s' stop.DataCheck l = not_done s' stop.DataCheck

  -- "faults and 8 as ordered above, then 9, judged on the items really drawn"
  abbrev pub course_by : (State → ℕ → Course) → Stepped → Option ℕ → Course
  course_by more (stepped.Goes s') l = gone_on more s' l
  course_by more (stepped.Stops s' e) l = halted_by s' e l

-- a run from a state, one step for each sight
unfoldable pub run_from : Buffer → List ℕ → State → ℕ → ℕ → List ℕ → Course
run_from b [] s n items list = course s n (Ended end.SightsUsed) items list
run_from b (g ∷ gs) s n items list =
    let list' = listed list items (items_drawn b s g) in
    course_by s n items list list' (λ s' k. run_from b gs s' (n + 1) k list') (step_from b.words s g) (listing (length list) items (items_drawn b s g))

-- status and sense bits behind it: 9 sets none
abbrev pub status_behind : Outcome → ℕ → ℕ
status_behind (Ended e) status = status_after e status
status_behind NoRoom status = status

abbrev pub sense_behind : Outcome → Sense → Sense
sense_behind (Ended e) s = sense_after e s
sense_behind NoRoom s = s

abbrev pub head_behind : Head → Course → Head
head_behind h c =
    record { state = c.state; status = status_behind c.outcome h.status; sense = sense_behind c.outcome h.sense; cursor = h.cursor }

abbrev pub ran_by : DisplayUnit → Course → RunEnd
ran_by u c = run_end (unit u.words (head_behind u.head c)) (RunValues.ran c.steps (outcome_number c.outcome) c.items) c.list

-- A RUN OF A UNIT: "8 before a run, over all its sights"; "10 is tried before 0"
unfoldable pub unit_run : DisplayUnit → List ℕ → List ℕ → RunEnd
unit_run u sights list =
    cond (all_sights sights)
    (ran_by u (cond u.head.state.running (run_from (buffer_of u) sights u.head.state 0 0 list) (course u.head.state 0 (Ended end.NotRunning) 0 list)))
    (run_end u (RunValues.refused 8) list)
