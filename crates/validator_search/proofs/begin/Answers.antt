-- The cleared store with the start marked begins level 0.
use Rattle.std.proofs.Common.{◌≡◌, ◌+◌, ◌*◌, ap, ◌∙◌, arith}
use Rattle.validator_store.specs.Layout.{top_of}
use Rattle.validator_store.specs.Store.{cleared}
use Rattle.validator_search.specs.Invariant.{plan_of}
use Rattle.validator_search.proofs.Plans.{fitted}
use Rattle.validator_search.proofs.Levels.{begun}
use Rattle.validator_search.proofs.begin.Goals as goal

pub returns : goal.returns
returns c = λ image.
    let a = c.args in
    let S = fitted image a.setup a.start c.requires.0 in
    let top : c.base_of.result + 3 * (c.last_of.result + 1) ≡ top_of a.setup.size = omega arith in
    let clear : c.clear.new.store ≡ cleared a.store.now (top_of a.setup.size) = c.clear.ensures ∙ ap (cleared a.store.now) top in
    begun (plan_of image a.setup a.start) S a.store.now c.clear.new.store c.visit.new.store c.visit.result c.requires.1 clear
    (c.visit.ensures image a.start 0 S (λ z. omega (arith, S.stacks)))
