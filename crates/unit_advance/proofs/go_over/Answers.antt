use Rattle.unit_advance.specs.Advance.{gone_over}
use Rattle.unit_advance.proofs.go_over.Goals as goal

pub returns-then-state : goal.returns-then-state
unfolding gone_over
returns-then-state c = simp (c.if-state.true, ← c.advance_from.ensures) (c.advanced_by.ensures _)

pub returns-else-state : goal.returns-else-state
unfolding gone_over
returns-else-state c = simp c.if-state.false (c.advanced_by-else-state.ensures _)
