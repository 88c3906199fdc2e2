use Rattle.std.proofs.Common.{◌≡◌, rules, true}
use Rattle.std.proofs.lemmas.Iterator.{first_from_Range}
use Rattle.unit_cursor.specs.Cursor.{buffer, cursor_here}
use Rattle.typing_seek.proofs.Laws.{Bare, cursor_found}
use Rattle.typing_seek.proofs.cursor_in.Goals as goal

pub returns : goal.returns
returns c =
    let b = buffer c.args.words.now c.args.cursor in
    cursor_found b c.args.size _ c.find.result (search rules)
    (first_from_Range _ _ _ _ (λ i. cursor_here b i ≡ true) (λ i. Bare b i) c.find.ensures.ran (λ x q k. search rules) (λ x q k. search rules))
