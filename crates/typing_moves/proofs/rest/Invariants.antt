use Rattle.std.proofs.Common.{◌≡◌, ◌-◌}
use Rattle.typing_moves.specs.Moves.{rest_from}
use Rattle.typing_moves.proofs.rest.Given as goal

abbrev pub invariant-loop : goal.invariant-loop
invariant-loop l = rest_from l.locations.words.now l.locations.size l.direction l.n l.at ≡ rest_from l.locations.words.now l.locations.size l.direction (l.n - l.counter) l.a
