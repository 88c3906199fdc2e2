-- The two calls together (02, C-21): "The two used together give what a run gives now."
use Rattle.std.specs.Prelude.{ℕ, ◌<◌, ◌≡◌, true, List, [], length, take, get_or, None, Some}
use Rattle.unit_items.specs.Items.{listing, listed}
use Rattle.unit_cursor.specs.Cursor.{Buffer}
use Rattle.unit_head.specs.Head.{DisplayUnit, unit, with_state, buffer_of}
use Rattle.unit_head.specs.declared.State.{State}
use Rattle.unit_step.specs.Step.{step_from, items_drawn}
use Rattle.unit_step.specs.Run.{steps_at, items_run, GoesOver}
use Rattle.unit_step.specs.declared.Stop.{Stop}
use Rattle.unit_step.specs.declared.Stepped.TheVariants.{Stops}
use Rattle.unit_advance.specs.Advance.{AdvanceValues, all_sights, unit_advance}
use Rattle.console_run.specs.Pair.{RunValues, run_end, pair_run}
use Rattle.theorem_run.specs.Run.{unit_run}

-- the answer, the unit and the list are those of a run
abbrev pub GivesTheRun : Type 0
GivesTheRun = (u : DisplayUnit) (sights list : List ℕ) → pair_run u sights list ≡ unit_run u sights list

-- a step that is not done draws nothing
abbrev pub NotDoneBare : Type 0
NotDoneBare =
    (b : Buffer) (s s' : State) (sight : ℕ) (e : Stop) → step_from b.words s sight ≡ Stops s' e → steps_at e ≡ 0 → items_drawn b s sight ≡ []

-- the next step's items don't fit: n steps go on, what they draw fits behind the items held and makes them k, and what the next one draws does
-- not fit behind those
pub record NextTooMuch (u : DisplayUnit) (sights : List ℕ) (held : ℕ) (list : List ℕ) (n k : ℕ) : Type 0 where
  pub behind : State
  pub next : n < length sights
  pub gone : GoesOver u.words sights u.head.state n behind
  pub fits : listing (length list) held (items_run (buffer_of u) (take n sights) u.head.state) ≡ Some k
  pub full : listing (length list) k (items_drawn (buffer_of u) behind (get_or sights n 0)) ≡ None

-- 9 exactly there; "After 9 the unit still runs at that place", and the list has what the steps done have drawn
pub record NineExactly (u : DisplayUnit) (sights list : List ℕ) (n k : ℕ) : Type 0 where
  pub only : (pair_run u sights list).answer ≡ RunValues.ran n 9 k → NextTooMuch u sights 0 list n k
  pub where_full : (t : NextTooMuch u sights 0 list n k)
      → pair_run u sights list
      ≡ run_end (unit u.words (with_state u.head t.behind)) (RunValues.ran n 9 k) (listed list 0 (items_run (buffer_of u) (take n sights) u.head.state))

abbrev pub Nine : Type 0
Nine =
    (u : DisplayUnit) (sights list : List ℕ) (n k : ℕ) → u.head.state.running ≡ true → all_sights sights ≡ true → NineExactly u sights list n k

-- what advancing answers, with so many items
abbrev pub with_items : AdvanceValues → ℕ → RunValues
with_items (AdvanceValues.advanced steps why) k = RunValues.ran steps why k
with_items (AdvanceValues.refused n) k = RunValues.refused n

-- where all fits, it is advancing, and the list of what is drawn
abbrev pub AllFits : Type 0
AllFits =
    (u : DisplayUnit) (sights list : List ℕ) (k : ℕ)
    → u.head.state.running ≡ true
    → all_sights sights ≡ true
    → listing (length list) 0 (items_run (buffer_of u) sights u.head.state) ≡ Some k
    → pair_run u sights list
    ≡ run_end (unit_advance u sights).unit (with_items (unit_advance u sights).answer k) (listed list 0 (items_run (buffer_of u) sights u.head.state))
