use native.Mathlib.Omega.{arith}
use mathlib.Core.Path.{sym, ◌∙◌}
use mathlib.Core.Bool.{cond}
use mathlib.Core.List.{List, [], ◌∷◌}
use lib.ListN.{length}
use Rattle.unit_motion.specs.Codes.{draws}
use Rattle.unit_drawing.specs.Drawing.{character_at, cursor_at, has_cursor}
use Rattle.unit_items.specs.declared.Item.{Item}
use Rattle.unit_items.proofs.Laws.{taken, listed_on, not_full}
use Rattle.unit_ahead.proofs.Laws.{one_at_most, code_drawn}
use Rattle.unit_ahead.proofs.list_code.Goals as goal

pub returns-in_default : goal.returns-in_default
returns-in_default c =
    let own : List Item = cond (draws c.args.code) (character_at c.args.size c.args.code c.args.beam c.args.at ∷ []) [] in
    let short = one_at_most (draws c.args.code) (character_at c.args.size c.args.code c.args.beam c.args.at) in
    let put = simp (c.is_drawing.ensures, c.character-character.ensures) at c.list_where.ensures in
    not_full (length c.args.out.now) c.args.held own (omega (arith, c.requires)) (sym put.0 ∙ c.in_default.is)

pub returns-in_default-list_where : goal.returns-in_default-list_where
returns-in_default-list_where c =
    let own : List Item = cond (draws c.args.code) (character_at c.args.size c.args.code c.args.beam c.args.at ∷ []) [] in
    let short = one_at_most (draws c.args.code) (character_at c.args.size c.args.code c.args.beam c.args.at) in
    let shown : List Item = cond (has_cursor c.args.marked c.args.code) (cursor_at c.args.size c.args.code c.args.beam c.args.at ∷ []) [] in
    let shorter = one_at_most (has_cursor c.args.marked c.args.code) (cursor_at c.args.size c.args.code c.args.beam c.args.at) in
    let one = simp (c.is_drawing.ensures, c.character-character.ensures) at c.list_where.ensures in
    let k = taken (length c.args.out.now) c.args.held _ own (sym one.0 ∙ c.in-Some.is) in
    let two = simp (c.has_cursor.ensures, c.cursor-shown.ensures) at c.list_where-2.ensures in
    not_full (length c.list_where.new.out) _ shown (omega (arith, c.requires, c.list_where.auto, k.more)) (sym two.0 ∙ c.in_default-list_where.is)

pub returns : goal.returns
returns c =
    let own : List Item = cond (draws c.args.code) (character_at c.args.size c.args.code c.args.beam c.args.at ∷ []) [] in
    let shown : List Item = cond (has_cursor c.args.marked c.args.code) (cursor_at c.args.size c.args.code c.args.beam c.args.at ∷ []) [] in
    let one = simp (c.is_drawing.ensures, c.character-character.ensures) at c.list_where.ensures in
    let two = simp (c.has_cursor.ensures, c.cursor-shown.ensures) at c.list_where-2.ensures in
    simp code_drawn
    (listed_on c.args.out.now c.list_where.new.out c.list_where-2.new.out c.args.held _ _ own shown (sym one.0 ∙ c.in-Some.is) one.1 (sym two.0 ∙ c.in-Some-list_where.is) two.1)
