-- After each turn the level is in its midst, with a place less.
use Rattle.std.proofs.Common.{ℕ, ◌<◌}
use Rattle.validator_walks.specs.Places.{places_of}
use Rattle.validator_search.specs.Invariant.{plan_of, Mid, Next, none, key_of}
use Rattle.validator_search.proofs.level.Given as goal

abbrev pub invariant-loop-rest : goal.invariant-loop-rest
invariant-loop-rest l =
    (start k c : ℕ) → start < places_of l.setup.size → Mid (plan_of l.image l.setup start) l.fn.store l.side l.m 0 k none c
    → Next (plan_of l.image l.setup start) l.fn.store l.store l.side l.rest l.found.t k (key_of l.found.first) c
