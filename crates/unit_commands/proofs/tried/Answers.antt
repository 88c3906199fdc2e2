use Rattle.unit_commands.specs.Commands.{tried_command}
use borrow.Author.Tests.{eq-eqb, ne_eqb}
use Rattle.unit_commands.proofs.tried.Goals as goal

pub returns-then-head-ne0 : goal.returns-then-head-ne0
unfolding tried_command
returns-then-head-ne0 c = simp (ne_eqb _ _ c.if-head-ne0.true) (c.waiting.ensures _ _)

pub returns-else-is_allowed : goal.returns-else-is_allowed
unfolding tried_command
returns-else-is_allowed c = simp (eq-eqb _ _ c.if-head-ne0.false, ← c.is_allowed.ensures, c.if-is_allowed.false) (c.rejected.ensures _ _)
