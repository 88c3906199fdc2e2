use Rattle.unit_items.proofs.Laws.{listed_on}
use Rattle.unit_ahead.proofs.Laws.{codes_drawn}
use Rattle.unit_ahead.proofs.list_pair.Goals as goal

pub returns : goal.returns
returns c =
    let one = c.list_code-n in
    let two = c.list_code in
    let second = simp c.after_code-end.ensures at two.ensures in
    simp codes_drawn
    (listed_on c.args.out.now _ _ c.args.held one.result two.result _ _ one.ensures.0 one.ensures.1 second.0 second.1)
