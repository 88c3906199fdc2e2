-- Worked runs with their lists, as one table over the definitions: what is listed behind what, and when 9 is told.
use Rattle.std.specs.Prelude.{ℕ, true, false, List, [], ◌∷◌}
use Rattle.ground_orders.specs.declared.Mode.TheVariants.{Idle, Point, Vector, IncrementalVector, Basic}
use Rattle.unit_pen.specs.Pen.{fresh}
use Rattle.unit_head.specs.Head.{DisplayUnit, no_sense}
use Rattle.unit_sense.specs.Sense.{sensing}
use Rattle.unit_step.specs.Samples.{shows, ending, unknown, two_points, two_steps, cut_short, pointed, armed, spent, nines}
use Rattle.console_run.specs.Pair.{RunValues, RunEnd, run_end}

-- a unit before a run, its sights, the list lent, and what is left
pub record RunCase : Type 0 where
  pub before : DisplayUnit
  pub sights : List ℕ
  pub lent : List ℕ
  pub after : RunEnd

abbrev run_case : DisplayUnit → List ℕ → List ℕ → RunEnd → RunCase
run_case before sights lent after = record { before = before; sights = sights; lent = lent; after = after }

abbrev pub run_cases : List RunCase
run_cases =
    -- "10 not running", which "is tried before 0"; "0 sights used up"
    run_case (shows ending 0 0 Idle false 3 5 fresh 0 no_sense) [] [] (run_end (shows ending 0 0 Idle false 3 5 fresh 0 no_sense) (RunValues.ran 0 10 0) [])
    ∷ run_case (shows ending 0 0 Idle true 3 5 fresh 0 no_sense) [] [] (run_end (shows ending 0 0 Idle true 3 5 fresh 0 no_sense) (RunValues.ran 0 0 0) [])
    -- "8 before a run, over all its sights": nothing of the first step is listed or done
    ∷ run_case (shows two_points 0 0 Point true 3 5 fresh 0 no_sense) (0 ∷ 3 ∷ []) (nines 16)
    (run_end (shows two_points 0 0 Point true 3 5 fresh 0 no_sense) (RunValues.refused 8) (nines 16))
    -- every step draws, behind what the steps before it have drawn
    ∷ run_case (shows two_points 0 0 Point true 3 5 fresh 0 no_sense) (0 ∷ 0 ∷ []) (nines 17)
    (run_end (shows two_points 0 8 Point true 3 4 fresh 0 no_sense) (RunValues.ran 2 0 2)
    (1 ∷ 1 ∷ 2 ∷ 1 ∷ 2 ∷ 0 ∷ 0 ∷ 0 ∷ 1 ∷ 3 ∷ 4 ∷ 3 ∷ 4 ∷ 0 ∷ 0 ∷ 4 ∷ 9 ∷ []))
    -- each step is judged by itself: the first leaves the screen, the second does not (02, C-19)
    ∷ run_case (shows two_steps 0 0 IncrementalVector true 1000 5 fresh 0 no_sense) (0 ∷ 0 ∷ []) (nines 16)
    (run_end (shows two_steps 0 4 IncrementalVector true 40 5 fresh 0 no_sense) (RunValues.ran 2 0 2)
    (2 ∷ 1000 ∷ 5 ∷ 39 ∷ 5 ∷ 1 ∷ 0 ∷ 0 ∷ 2 ∷ 39 ∷ 5 ∷ 40 ∷ 5 ∷ 0 ∷ 0 ∷ 2 ∷ []))
    -- "9 items don't fit": the step is not done, and "the unit still runs at that place"
    ∷ run_case (shows two_points 0 0 Point true 3 5 fresh 0 no_sense) (0 ∷ 0 ∷ []) (nines 15)
    (run_end (shows two_points 0 4 Point true 1 2 fresh 0 no_sense) (RunValues.ran 1 9 1) (1 ∷ 1 ∷ 2 ∷ 1 ∷ 2 ∷ 0 ∷ 0 ∷ 0 ∷ 9 ∷ 9 ∷ 9 ∷ 9 ∷ 9 ∷ 9 ∷ 9 ∷ []))
    ∷ run_case (shows pointed 1 0 Basic true 3 5 fresh 0 no_sense) (0 ∷ []) (nines 23)
    (run_end (shows pointed 1 0 Basic true 3 5 fresh 0 no_sense) (RunValues.ran 0 9 0) (nines 23))
    -- "faults and 8 as ordered above, then 9": a fault needs no room, nor does an end order
    ∷ run_case (shows unknown 0 0 Basic true 3 5 fresh 0 no_sense) (0 ∷ []) [] (run_end (shows unknown 0 0 Basic false 3 5 fresh 0 no_sense) (RunValues.ran 0 2 0) [])
    ∷ run_case (shows cut_short 0 0 Idle true 3 5 fresh 0 no_sense) (0 ∷ 0 ∷ []) [] (run_end (shows cut_short 0 2 Vector false 3 5 fresh 0 no_sense) (RunValues.ran 1 5 0) [])
    ∷ run_case (shows ending 0 0 Basic true 3 5 fresh 0 no_sense) (0 ∷ []) []
    (run_end (shows ending 0 2 Idle false 3 5 fresh 0x82 (sensing false false false true)) (RunValues.ran 1 6 0) [])
    -- 9 is "judged on the items really drawn": behind a detect none is
    ∷ run_case (shows pointed 1 0 Basic true 3 5 armed 0 no_sense) (1 ∷ []) (nines 8)
    (run_end (shows pointed 1 0 Basic false 17 5 spent 0x82 (sensing false false true false)) (RunValues.ran 1 7 1) (3 ∷ 3 ∷ 5 ∷ 3 ∷ 5 ∷ 0xC1 ∷ 1 ∷ 0 ∷ []))
    ∷ []
