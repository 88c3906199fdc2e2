-- Before level k no fault was met in fewer steps; the places not yet marked fall.
use Rattle.std.proofs.Common.{◌≡◌, ◌+◌, ◌-◌, ◌≤◌, length, drop}
use Rattle.validator_walks.specs.Places.{places_of}
use Rattle.validator_store.specs.Layout.{top_of}
use Rattle.validator_search.specs.Invariant.{plan_of, Mid, none}
use Rattle.validator_search.proofs.explore.Given as goal

-- before level k: m places of it, c marked in all
abbrev pub invariant-loop-m : goal.invariant-loop-m
invariant-loop-m l = record {
  mid : Mid (plan_of l.image l.setup l.start) l.store l.side l.m 0 l.k none l.c;
  steps : l.k + l.m ≤ l.c;
  long : length l.store ≡ length l.fn.store;
  tail : drop (top_of l.setup.size) l.store ≡ drop (top_of l.setup.size) l.fn.store;
}

abbrev pub decreases-loop-m : goal.decreases-loop-m
decreases-loop-m l = places_of l.setup.size + l.m - l.c
