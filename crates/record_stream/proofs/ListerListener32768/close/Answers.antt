use Rattle.std.proofs.Common.{arith}
use Rattle.record_stream.proofs.Laws.{lister_closes}
use Rattle.record_stream.proofs.ListerListener32768.close.Goals as goal

pub returns : goal.returns
returns c =
    lister_closes c.args.self.now c.args.out.now c.close.new.out c.close.result (omega arith) (omega arith) (c.close.ensures.value, c.close.ensures.out_after)
