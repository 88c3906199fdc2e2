use Rattle.std.proofs.Common.{arith}
use Rattle.console_stream.proofs.Laws.{holder_closes}
use Rattle.console_stream.proofs.HolderListener524288.close.Goals as goal

pub returns : goal.returns
returns c =
    holder_closes c.args.self.now c.args.out.now c.close.new.out c.close.result (omega arith) (omega arith) (c.close.ensures.value, c.close.ensures.out_after)
