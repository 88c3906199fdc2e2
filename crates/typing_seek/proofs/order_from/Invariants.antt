use Rattle.std.proofs.Common.{◌≡◌, ◌-◌}
use Rattle.typing_seek.specs.Seek.{order_from}
use Rattle.typing_seek.proofs.order_from.Given as goal

abbrev pub invariant-loop : goal.invariant-loop
invariant-loop l = order_from l.locations.words.now l.locations.size l.n l.at ≡ order_from l.locations.words.now l.locations.size (l.n - l.counter) l.a
