-- Worked runs with their lists, by the table of `specs/Cases.antt`: each case of it holds.
use Rattle.std.specs.Prelude.{◌≡◌, refl, map}
use Rattle.std.specs.Int.Count.{ones, ones_in}
use Rattle.ground_orders.specs.Orders.{table, find_in, order_of}
use Rattle.ground_groups.specs.Groups.{words_group}
use Rattle.ground_look.specs.Look.{look_of}
use Rattle.unit_beam.specs.Beam.{placed, blanked_place, increment, exact_sum, summed, stepped, leaves_screen, blanked_step, line_below, new_line, after_character}
use Rattle.unit_pen.specs.Pen.{detects, seen_of, spent_pen, detected}
use Rattle.unit_items.specs.Items.{listing, listed}
use Rattle.unit_motion.specs.Codes.{draws, after_code}
use Rattle.unit_motion.specs.Motion.{two_of, four_of, motion_of, beam_after}
use Rattle.unit_drawing.specs.Drawing.{shows_cursor, has_cursor, code_strokes, codes_strokes, strokes_of, upto, hit_in}
use Rattle.unit_sense.specs.Sense.{sense_joined}
use Rattle.unit_step.specs.Step.{step_over, step_from, items_drawn}
use Rattle.unit_step.specs.Run.{steps_from, steps_done}
use Rattle.unit_advance.specs.Advance.{progress_over, all_sights, gone_over, unit_advance}
use Rattle.unit_list.specs.List.{next_items, unit_list}
use Rattle.console_run.specs.Pair.{pair_from, pair_run}
use Rattle.console_run.specs.Cases.{RunCase, run_cases}

-- each case of the table holds
pub run_cases_lem : map (λ (c : RunCase). pair_run c.before c.sights c.lent) run_cases ≡ map (λ (c : RunCase). c.after) run_cases
unfolding pair_run pair_from unit_advance all_sights gone_over progress_over steps_from steps_done step_from step_over unit_list next_items items_drawn look_of words_group order_of find_in table listing listed motion_of two_of four_of beam_after draws after_code strokes_of codes_strokes code_strokes shows_cursor has_cursor upto hit_in placed blanked_place increment exact_sum summed stepped leaves_screen blanked_step line_below new_line after_character detects seen_of spent_pen detected sense_joined ones ones_in
run_cases_lem = refl
