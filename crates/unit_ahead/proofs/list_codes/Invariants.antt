use Rattle.unit_cursor.specs.Cursor.{buffer}
use Rattle.unit_ahead.proofs.Laws.{AheadOn}
use Rattle.unit_ahead.proofs.list_codes.Given as goal

abbrev pub invariant-loop-i : goal.invariant-loop-i
invariant-loop-i l = AheadOn (buffer l.words l.cursor) l.sights l.fn.start l.fn.held l.fn.out l.i l.state l.n l.out
