-- Advancing (02, C-21: "one advances the device"; 01, "The pen"): it "answers the steps done and why it ended", and lists nothing.
use Rattle.std.specs.Prelude.{ℕ, Bool, true, false, cond, ◌&&◌, List, [], ◌∷◌, leb, length, take, Err, Ok, Result}
use Rattle.ground_refusals.specs.Refusals.{refusal_number}
use Rattle.ground_refusals.specs.declared.Refusal.{Refusal}
use Rattle.ground_look.specs.declared.Fault.{Fault}
use Rattle.ground_look.specs.declared.Fault.TheVariants as fault
use Rattle.unit_head.specs.Head.{DisplayUnit, unit}
use Rattle.unit_head.specs.declared.State.{State}
use Rattle.unit_head.specs.declared.Sense.{Sense}
use Rattle.unit_head.specs.declared.Head.{Head}
use Rattle.unit_sense.specs.Sense.{sense_joined}
use Rattle.unit_step.specs.Run.{steps_from, steps_done, idle_steps}
use Rattle.unit_step.specs.declared.Stop.{Stop}
use Rattle.unit_step.specs.declared.Stop.TheVariants as stop
use Rattle.unit_step.specs.declared.Stepped.{Stepped}
use Rattle.unit_step.specs.declared.Stepped.TheVariants as stepped
use Rattle.unit_advance.specs.declared.End.{End}
use Rattle.unit_advance.specs.declared.End.TheVariants as end
use Rattle.unit_advance.specs.declared.Progress.{Progress}
use Rattle.unit_advance.specs.declared.Advanced.{Advanced}

-- "0 sights used up, 1 to 5 fault, 6 end order, 7 detect, 8 data check, .. 10 not running"; "Advancing never ends with 9" (02, C-21)
abbrev pub fault_end : Fault → ℕ
fault_end fault.Unwritten = 1
fault_end fault.NoRow = 2
fault_end fault.OddTarget = 3
fault_end fault.FarTarget = 4
fault_end fault.OrderForY = 5

abbrev pub stop_number : Stop → ℕ
stop_number (stop.Fault f) = fault_end f
stop_number stop.EndOrder = 6
stop_number stop.Detect = 7
stop_number stop.DataCheck = 8

abbrev pub end_number : End → ℕ
end_number end.SightsUsed = 0
end_number (end.Stopped e) = stop_number e
end_number end.NotRunning = 10

-- where advancing has come to: the state, the steps done and why it ended
abbrev pub progress : State → ℕ → End → Progress
progress s n e = record { state = s; steps = n; end = e }

abbrev pub progress_by : ℕ → Stepped → Progress
progress_by n (stepped.Goes s) = progress s n end.SightsUsed
progress_by n (stepped.Stops s e) = progress s n (end.Stopped e)

-- from a state over sights, one step for each
unfoldable pub progress_over : List ℕ → List ℕ → State → Progress
progress_over words sights s = progress_by (steps_done words sights s) (steps_from words sights s)

-- how many sights are used: all, or those of steps from idle mode
abbrev pub used_by : Bool → List ℕ → List ℕ → State → ℕ
used_by idle words sights s = cond idle (idle_steps words sights s) (length sights)

-- "8 a sight above 2"
unfoldable pub all_sights : List ℕ → Bool
all_sights [] = true
all_sights (g ∷ gs) = leb g 2 && all_sights gs

-- "with .. Attention and Unit Check": an end order, a detect and a data check; "Any fault stops regeneration at A with no status"
abbrev pub stop_status : Stop → ℕ → ℕ
stop_status (stop.Fault f) status = status
stop_status stop.EndOrder status = 0x82
stop_status stop.Detect status = 0x82
stop_status stop.DataCheck status = 0x82

-- which sense bit each stop sets
abbrev pub stop_sense : Stop → Sense → Sense
stop_sense (stop.Fault f) s = s
stop_sense stop.EndOrder s = sense_joined s false false true
stop_sense stop.Detect s = sense_joined s false true false
stop_sense stop.DataCheck s = sense_joined s true false false

abbrev pub status_after : End → ℕ → ℕ
status_after end.SightsUsed status = status
status_after (end.Stopped e) status = stop_status e status
status_after end.NotRunning status = status

abbrev pub sense_after : End → Sense → Sense
sense_after end.SightsUsed s = s
sense_after (end.Stopped e) s = stop_sense e s
sense_after end.NotRunning s = s

-- the head that advancing leaves: "Regeneration never stores"
abbrev pub head_after : Head → Progress → Head
head_after h p =
    record { state = p.state; status = status_after p.end h.status; sense = sense_after p.end h.sense; cursor = h.cursor }

-- the answer in 01's numbers: the steps done and why it ended, or the number of the refusal
pub data AdvanceValues : Type 0 where
  advanced : ℕ → ℕ → AdvanceValues
  refused : ℕ → AdvanceValues

abbrev pub advance_values : Result Advanced Refusal → AdvanceValues
advance_values (Ok a) = AdvanceValues.advanced a.steps (end_number a.end)
advance_values (Err r) = AdvanceValues.refused (refusal_number r)

-- what advancing leaves: the unit and the answer
pub record AdvanceEnd : Type 0 where
  pub unit : DisplayUnit
  pub answer : AdvanceValues

-- the same of a call that leaves the words and the head, and answers
abbrev pub advance_ended : List ℕ → Head → Result Advanced Refusal → AdvanceEnd
advance_ended words head r = record { unit = unit words head; answer = advance_values r }

abbrev pub advanced_by : DisplayUnit → Progress → AdvanceEnd
advanced_by u p =
    record { unit = unit u.words (head_after u.head p); answer = AdvanceValues.advanced p.steps (end_number p.end) }

-- over sights; "10 is tried before 0"
unfoldable pub gone_over : DisplayUnit → List ℕ → AdvanceEnd
gone_over u sights =
    advanced_by u (cond u.head.state.running (progress_over u.words sights u.head.state) (progress u.head.state 0 end.NotRunning))

-- ADVANCING a unit: "8 before a run, over all its sights"
unfoldable pub unit_advance : DisplayUnit → List ℕ → AdvanceEnd
unit_advance u sights = cond (all_sights sights) (gone_over u sights) (record { unit = u; answer = AdvanceValues.refused 8 })

-- as long as the mode is idle: a step from idle mode draws nothing, and no sight falls on it
unfoldable pub idle_advance : DisplayUnit → List ℕ → AdvanceEnd
idle_advance u sights = gone_over u (take (idle_steps u.words sights u.head.state) sights)
