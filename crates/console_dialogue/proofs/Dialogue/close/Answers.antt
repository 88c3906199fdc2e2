use Rattle.console_dialogue.proofs.Laws.{closed_none, closed_line}
use Rattle.console_dialogue.proofs.Dialogue.close.Goals as goal

pub returns-then-line-eq0 : goal.returns-then-line-eq0
returns-then-line-eq0 c =
    let p = closed_none c.args.self c.args.kept.now _ c.open_line-line.ensures c.args.out.now c.if-line-eq0.true in
    record { value = p.0; out_after = p.1 }

pub returns : goal.returns
returns c =
    let p = closed_line c.args.self c.args.kept.now _ c.open_line-line.ensures c.args.out.now _ _ _ c.if-line-eq0.false c.answer.ensures in
    record { value = p.0; out_after = p.1 }
