use Rattle.unit_stretch.proofs.Laws.{Covered}
use Rattle.unit_stretch.proofs.move_over.Given as goal

abbrev pub invariant-loop-i : goal.invariant-loop-i
invariant-loop-i l = Covered l.words l.sights l.fn.start l.i l.state
