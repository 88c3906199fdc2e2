-- The worked cases of the keyboard hold.
use Rattle.std.specs.Prelude.{◌≡◌, refl, map}
use Rattle.std.specs.Int.Count.{ones, ones_in}
use Rattle.ground_location.specs.Location.{word_of}
use Rattle.ground_orders.specs.Orders.{table, find_in, order_of}
use Rattle.ground_groups.specs.Groups.{words_group}
use Rattle.ground_look.specs.Look.{look_of}
use Rattle.unit_pen.specs.Pen.{timed, detects, seen_of}
use Rattle.unit_motion.specs.Motion.{motion_of, two_of, four_of}
use Rattle.unit_motion.specs.Codes.{draws}
use Rattle.unit_beam.specs.Beam.{blanked_place}
use Rattle.unit_drawing.specs.Drawing.{code_strokes, codes_strokes, strokes_of, has_cursor, hit_in}
use Rattle.unit_cursor.specs.Cursor.{cursors_in, recounted, set_here, bare_at, cleared_here}
use Rattle.unit_step.specs.Step.{step_from, step_over}
use Rattle.typing_signs.specs.Signs.{byte_at, code_at, order_at, line_at}
use Rattle.typing_seek.specs.Seek.{order_from, cursor_from, cursor_in, order_behind}
use Rattle.typing_moves.specs.Moves.{rest_from, goes_to}
use Rattle.typing_fields.specs.Fields.{code_field, field_of}
use Rattle.typing_jump.specs.Jump.{hop_of, jump_from, jump_of}
use Rattle.typing_keyboard.specs.Acts.{letter_of, sign_of, numbered_of, character_of, act_of}
use Rattle.typing_keys.specs.Keys.{cursor_moved, character_stored, unit_key}
use Rattle.typing_keys.specs.Cases.{key_cases, results, expected}

-- each case of the table holds
pub key_cases_lem : map results key_cases ≡ map expected key_cases
unfolding unit_key numbered_of letter_of sign_of act_of character_of cursor_moved character_stored set_here bare_at cleared_here cursors_in recounted cursor_in cursor_from order_behind order_from goes_to rest_from byte_at code_at order_at line_at field_of code_field jump_of jump_from hop_of step_from step_over seen_of detects timed hit_in strokes_of codes_strokes code_strokes has_cursor draws motion_of two_of four_of blanked_place look_of words_group word_of order_of find_in table ones ones_in
key_cases_lem = refl
