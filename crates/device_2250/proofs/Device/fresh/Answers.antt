use Rattle.std.proofs.Math.ListN.{get_or-replicate}
use Rattle.device_2250.proofs.Device.fresh.Goals as goal

pub returns-clause-whole : goal.returns-clause-whole
returns-clause-whole c = rw c.fresh_head.ensures

pub returns-clause-each : goal.returns-clause-each
returns-clause-each c = λ k h. get_or-replicate 8192 k 512 0 h
