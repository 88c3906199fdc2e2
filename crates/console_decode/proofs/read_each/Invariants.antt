use Rattle.std.proofs.Common.{◌≡◌, take}
use Rattle.console_decode.specs.Decode.{decoded}
use Rattle.console_decode.proofs.read_each.Given as goal

abbrev pub invariant-loop-i : goal.invariant-loop-i
invariant-loop-i g l = take l.i l.out ≡ decoded g.value l.i
