-- Worked cases of advancing, as one table over the definitions: 01, "One step of regeneration" and "The pen", sentence by sentence.
use Rattle.std.specs.Prelude.{ℕ, ◌≡◌, refl, true, false, List, [], ◌∷◌, map}
use Rattle.std.specs.Int.Count.{ones, ones_in}
use Rattle.ground_orders.specs.Orders.{table, find_in, order_of}
use Rattle.ground_orders.specs.declared.Mode.TheVariants.{Idle, Point, Vector, Basic}
use Rattle.ground_groups.specs.Groups.{words_group}
use Rattle.ground_look.specs.Look.{look_of}
use Rattle.unit_beam.specs.Beam.{placed, blanked_place, line_below, new_line, after_character}
use Rattle.unit_pen.specs.Pen.{fresh, detects, seen_of, spent_pen, seen_pen, detected}
use Rattle.unit_motion.specs.Codes.{draws, after_code}
use Rattle.unit_motion.specs.Motion.{two_of, four_of, motion_of, beam_after}
use Rattle.unit_drawing.specs.Drawing.{shows_cursor, has_cursor, code_strokes, codes_strokes, strokes_of, hit_in}
use Rattle.unit_head.specs.declared.Sense.{Sense}
use Rattle.unit_head.specs.Head.{DisplayUnit, no_sense}
use Rattle.unit_sense.specs.Sense.{sensing, sense_given, sense_joined}
use Rattle.unit_step.specs.Step.{step_over, step_from}
use Rattle.unit_step.specs.Run.{steps_from, steps_done}
use Rattle.unit_step.specs.Samples.{shows, ending, unknown, bad_parity, cut_short, one_two, letters, pointed, armed, spent, no_switch}
use Rattle.unit_advance.specs.Advance.{progress_over, all_sights, AdvanceValues, AdvanceEnd, gone_over, unit_advance}

-- a unit, the sights it advances over, and what is left
pub record AdvanceCase : Type 0 where
  pub before : DisplayUnit
  pub sights : List ℕ
  pub after : AdvanceEnd

abbrev advance_case : DisplayUnit → List ℕ → DisplayUnit → AdvanceValues → AdvanceCase
advance_case before sights u answer = record { before = before; sights = sights; after = record { unit = u; answer = answer } }

-- sense bits of a reject, which Sense has not given
abbrev rejects : Sense
rejects = sensing true false false false

abbrev pub advance_cases : List AdvanceCase
advance_cases =
    -- "10 not running", which "is tried before 0"; "0 sights used up"
    advance_case (shows ending 0 0 Idle false 3 5 fresh 0 no_sense) [] (shows ending 0 0 Idle false 3 5 fresh 0 no_sense) (AdvanceValues.advanced 0 10)
    ∷ advance_case (shows ending 0 0 Idle true 3 5 fresh 0 no_sense) [] (shows ending 0 0 Idle true 3 5 fresh 0 no_sense) (AdvanceValues.advanced 0 0)
    -- "8 before a run, over all its sights", the last one too, and where a step before it would end
    ∷ advance_case (shows ending 0 0 Idle false 3 5 fresh 0 no_sense) (0 ∷ 3 ∷ []) (shows ending 0 0 Idle false 3 5 fresh 0 no_sense) (AdvanceValues.refused 8)
    ∷ advance_case (shows ending 0 0 Idle true 3 5 fresh 0 no_sense) (0 ∷ 3 ∷ []) (shows ending 0 0 Idle true 3 5 fresh 0 no_sense) (AdvanceValues.refused 8)
    -- "End Order Sequence stops in idle, with Attention and Unit Check and the address after it"; its sense bit joins the standing ones, or
    -- replaces those that Sense has given
    ∷ advance_case (shows ending 0 0 Basic true 3 5 fresh 0 rejects) (0 ∷ 0 ∷ [])
    (shows ending 0 2 Idle false 3 5 fresh 0x82 (sensing true false false true)) (AdvanceValues.advanced 1 6)
    ∷ advance_case (shows ending 0 0 Basic true 3 5 fresh 0 (sense_given rejects)) (0 ∷ [])
    (shows ending 0 2 Idle false 3 5 fresh 0x82 (sensing false false false true)) (AdvanceValues.advanced 1 6)
    -- "Any fault stops regeneration at A with no status"
    ∷ advance_case (shows unknown 0 0 Basic true 3 5 fresh 0 rejects) (0 ∷ []) (shows unknown 0 0 Basic false 3 5 fresh 0 rejects) (AdvanceValues.advanced 0 2)
    ∷ advance_case (shows cut_short 0 0 Idle true 3 5 fresh 0 no_sense) (0 ∷ 0 ∷ []) (shows cut_short 0 2 Vector false 3 5 fresh 0 no_sense) (AdvanceValues.advanced 1 5)
    -- "bad parity stops with Data Check at that byte, Attention and Unit Check"
    ∷ advance_case (shows bad_parity 0 0 Basic true 3 5 fresh 0 no_sense) (0 ∷ [])
    (shows bad_parity 0 1 Basic false 3 5 fresh 0x82 (sensing false true false false)) (AdvanceValues.advanced 0 8)
    -- a point and two characters move the beam
    ∷ advance_case (shows one_two 0 0 Point true 3 5 fresh 0 no_sense) (0 ∷ []) (shows one_two 0 4 Point true 1 2 fresh 0 no_sense) (AdvanceValues.advanced 1 0)
    ∷ advance_case (shows letters 0 0 Basic true 3 5 fresh 0 no_sense) (0 ∷ []) (shows letters 0 2 Basic true 31 5 fresh 0 no_sense) (AdvanceValues.advanced 1 0)
    -- a detect "stops regeneration after that item, the beam at the item's end .., with Light-Pen Detect, its address, Attention and Unit Check"
    ∷ advance_case (shows pointed 1 0 Basic true 3 5 armed 0 no_sense) (1 ∷ [])
    (shows pointed 1 0 Basic false 17 5 spent 0x82 (sensing false false true false)) (AdvanceValues.advanced 1 7)
    ∷ advance_case (shows letters 0 0 Basic true 3 5 (no_switch false) 0 no_sense) (2 ∷ 0 ∷ [])
    (shows letters 0 1 Basic false 31 5 (no_switch true) 0x82 (sensing false false true false)) (AdvanceValues.advanced 1 7)
    -- a sight without a pen that detects is nothing
    ∷ advance_case (shows letters 0 0 Basic true 3 5 fresh 0 no_sense) (1 ∷ []) (shows letters 0 2 Basic true 31 5 fresh 0 no_sense) (AdvanceValues.advanced 1 0)
    ∷ []

-- each case of the table holds
pub advance_cases_lem : map (λ (c : AdvanceCase). unit_advance c.before c.sights) advance_cases ≡ map (λ (c : AdvanceCase). c.after) advance_cases
unfolding unit_advance all_sights gone_over progress_over steps_from steps_done step_from step_over look_of words_group order_of find_in table motion_of two_of four_of beam_after draws after_code strokes_of codes_strokes code_strokes shows_cursor has_cursor hit_in placed blanked_place line_below new_line after_character detects seen_of spent_pen seen_pen detected sense_joined ones ones_in
advance_cases_lem = refl
