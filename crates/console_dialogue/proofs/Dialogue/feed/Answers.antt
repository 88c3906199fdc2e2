use Rattle.console_dialogue.proofs.Laws.{taking_next}
use Rattle.console_dialogue.proofs.Dialogue.feed.Goals as goal

pub loop-used-preserved : goal.loop-used-preserved
loop-used-preserved c =
    let l = c.loop-used in
    let f = c.advance-fed in
    taking_next c.args.self.now l.self c.args.kept.now l.kept c.args.piece.now c.args.out.now l.out l.used l.end l.invariant _ _ _
    f.result f.new.self c.behind.ensures f.ensures.takes_in f.ensures.used_nonzero
