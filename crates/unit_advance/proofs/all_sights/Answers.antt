use native.Mathlib.Omega.{arith}
use mathlib.Core.Path.{◌∙◌}
use Rattle.unit_advance.proofs.Sights.{greatest_more}
use Rattle.unit_advance.proofs.all_sights.Goals as goal

pub loop-sight-preserved : goal.loop-sight-preserved
loop-sight-preserved c = rw c.max-greatest.ensures (c.loop-sight.invariant ∙ greatest_more c.args.sights.now c.loop-sight.sight-index c.loop-sight.greatest (omega arith))
