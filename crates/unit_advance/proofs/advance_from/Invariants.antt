use Prim.Native.Nat.{◌-◌}
use lib.ListN.{length}
use Rattle.unit_advance.proofs.Going.{Going}
use Rattle.unit_advance.proofs.advance_from.Given as goal

abbrev pub invariant-loop-i : goal.invariant-loop-i
invariant-loop-i l = Going l.words l.sights l.initial.state l.idle l.i l.state

abbrev pub decreases-loop-i : goal.decreases-loop-i
decreases-loop-i l = length l.sights - l.i
