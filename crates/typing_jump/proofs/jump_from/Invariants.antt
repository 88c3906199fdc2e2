use Rattle.std.proofs.Common.{◌≡◌, ◌-◌}
use Rattle.typing_jump.specs.Jump.{jump_from}
use Rattle.typing_jump.proofs.jump_from.Given as goal

abbrev pub invariant-loop : goal.invariant-loop
invariant-loop l = jump_from l.words l.n l.fn.start ≡ jump_from l.words (l.n - l.counter) l.state
