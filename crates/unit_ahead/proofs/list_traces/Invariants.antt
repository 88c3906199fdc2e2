use Rattle.unit_cursor.specs.Cursor.{buffer}
use Rattle.unit_cursor.specs.declared.Cursor.{Cursor}
use Rattle.unit_ahead.proofs.Laws.{AheadOn}
use Rattle.unit_ahead.proofs.list_traces.Given as goal

abbrev pub invariant-loop-i : goal.invariant-loop-i
invariant-loop-i l = (k : Cursor) → AheadOn (buffer l.words k) l.sights l.fn.start l.fn.held l.fn.out l.i l.state l.n l.out
