use Rattle.std.proofs.Common.{arith}
use Rattle.console_stream.proofs.Laws.{holder_takes}
use Rattle.console_stream.proofs.HolderListener524288.feed.Goals as goal

pub returns : goal.returns
returns c =
    let f = c.feed in
    holder_takes c.args.self.now f.new.self f.new.kept c.args.piece.now c.args.out.now f.new.out f.result (omega arith) (omega arith)
    f.ensures.takes_in f.ensures.leaves_over
