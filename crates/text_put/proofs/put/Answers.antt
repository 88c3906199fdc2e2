use Rattle.std.proofs.Common.{arith, add-one, length-set}
use Rattle.std.proofs.Math.Seq.{paste-suc}
use Rattle.text_put.proofs.put.Goals as goal

pub loop-i-preserved : goal.loop-i-preserved
loop-i-preserved c = (
  simp length-set (omega arith),
  rw (
    c.loop-i.invariant.1,
    add-one,
    paste-suc c.args.buffer.now c.args.at c.args.text.now c.loop-i.i 0 (omega arith) (omega arith),
  ),
)
