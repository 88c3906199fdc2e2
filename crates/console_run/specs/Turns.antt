-- One turn of a run with its list: for the proof alone.
use Rattle.std.specs.Prelude.{ℕ, ◌+◌, ◌≤◌, ◌<◌, ◌≡◌, true, List, length, drop, None, Option, Some}
use Rattle.unit_head.specs.Head.{unit}
use Rattle.unit_head.specs.declared.Head.{Head}
use Rattle.unit_advance.specs.declared.Advanced.{Advanced}
use Rattle.unit_advance.specs.declared.End.{End}
use Rattle.unit_advance.specs.declared.End.TheVariants as end
use Rattle.console_run.specs.declared.Outcome.{Outcome}
use Rattle.console_run.specs.declared.Outcome.TheVariants.{Ended}
use Rattle.console_run.specs.declared.Turn.{Turn}
use Rattle.console_run.specs.Pair.{outcome_number, RunValues, RunEnd, run_end, pair_from}

-- the turn of steps that were gone over: it ends the run but where the sights were used up
abbrev pub turn_end : End → Option Outcome
turn_end end.SightsUsed = None
turn_end (end.Stopped e) = Some (Ended (end.Stopped e))
turn_end end.NotRunning = Some (Ended end.NotRunning)

abbrev pub turn_gone : Advanced → ℕ → Turn
turn_gone gone held = record { steps = gone.steps; held = held; end = turn_end gone.end }

-- where a turn leads that leaves this head: on over the sights that are left, or to the end
abbrev pub leads_by : List ℕ → List ℕ → ℕ → List ℕ → Head → ℕ → ℕ → Option Outcome → RunEnd
leads_by words sights n list h steps held None = pair_from (unit words h) (drop steps sights) (n + steps) held list
leads_by words sights n list h steps held (Some o) = run_end (unit words h) (RunValues.ran (n + steps) (outcome_number o) held) list

abbrev pub leads_to : List ℕ → List ℕ → ℕ → List ℕ → Head → Turn → RunEnd
leads_to words sights n list h t = leads_by words sights n list h t.steps t.held t.end

-- a turn takes no more steps than there are sights; one that goes on takes a step at least, and leaves a unit that runs
abbrev pub OnwardsBy : List ℕ → Head → ℕ → Option Outcome → Type 0
OnwardsBy sights h steps None = (h.state.running ≡ true) × (0 < steps) × (steps ≤ length sights)
OnwardsBy sights h steps (Some o) = steps ≤ length sights

abbrev pub Onwards : List ℕ → Head → Turn → Type 0
Onwards sights h t = OnwardsBy sights h t.steps t.end

-- A TURN IS TAKEN from one head to another
pub record Takes (words sights : List ℕ) (h : Head) (held : ℕ) (list : List ℕ) (h' : Head) (t : Turn) (list' : List ℕ) : Type 0 where
  pub leads : (n : ℕ) → pair_from (unit words h) sights n held list ≡ leads_to words sights n list' h' t
  pub onwards : Onwards sights h' t
