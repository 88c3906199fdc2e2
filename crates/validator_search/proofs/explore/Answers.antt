-- No more places are marked than there are, and a level without a fault begins the next.
use Rattle.std.proofs.Common.{◌≡◌, ℕ, ◌+◌, ◌≤◌, ◌<◌, Some, not, refl, sym, ap, ◌∙◌, subst, add-one, arith}
use Rattle.ground_setup.proofs.Laws.{sane}
use Rattle.validator_walks.specs.Places.{places_of}
use Rattle.validator_walks.proofs.Unique.{same_fault, fault_lt}
use Rattle.validator_store.proofs.Bits.{tally_le}
use Rattle.validator_search.specs.Invariant.{plan_of, Mid, Next, none, key_of}
use Rattle.validator_search.proofs.Plans.{fitted}
use Rattle.validator_search.proofs.Levels.{flip, clean, first}
use Rattle.validator_search.proofs.explore.Goals as goal
use Rattle.validator_search.proofs.explore.Goals.{After-level-found}

pub loop-m-init : goal.loop-m-init
loop-m-init c =
    let N = c.begin-m.ensures c.args.image.now in
    record { mid = N.mid; steps = omega arith; long = N.long; tail = N.tail }

pub level-found-requires : goal.level-found-requires
level-found-requires c = (c.args.start, c.loop-m.k, c.loop-m.c, c.requires.0, omega arith, c.loop-m.invariant.mid)

-- what a level leaves
left : (c : After-level-found)
    → Next (plan_of c.args.image.now c.args.setup c.args.start) c.loop-m.store c.level-found.new.store c.loop-m.side 0 c.level-found.result.t c.loop-m.k
    (key_of c.level-found.result.first) c.loop-m.c
left c = c.level-found.ensures c.args.start c.loop-m.k c.loop-m.c c.requires.0 c.loop-m.invariant.mid

-- no more places are marked than there are
few : (c : After-level-found) → c.loop-m.c + c.level-found.result.t ≤ places_of c.args.setup.size
few c = omega (arith, (left c).mid.count, tally_le c.level-found.new.store (places_of c.args.setup.size))

pub returns-in-Some-clause-right : goal.returns-in-Some-clause-right
returns-in-Some-clause-right c =
    let a = c.args in
    let lp = c.loop-m in
    let r = c.level-found.result in
    let N = left (goal.at.returns-in-Some-clause-right c).After-level-found in
    let e : key_of r.first ≡ key_of (Some c.in-Some.first) = ap key_of c.in-Some.is in
    let small = fault_lt c.in-Some.first.fault in
    let low : key_of r.first < none = omega (arith, N.low) in
    first (plan_of a.image.now a.setup a.start) (fitted a.image.now a.setup a.start c.requires.0) same_fault c.level-found.new.store lp.side r.t lp.k (key_of r.first) lp.c
    N.mid low c.in-Some.first.fault c.in-Some.first.at (omega arith) e

pub returns-in-Some-clause-tail : goal.returns-in-Some-clause-tail
returns-in-Some-clause-tail c = (left (goal.at.returns-in-Some-clause-tail c).After-level-found).tail ∙ c.loop-m.invariant.tail

pub overflow_add-c : goal.overflow_add-c
overflow_add-c c = omega (arith, few (goal.at.overflow_add-c c).After-level-found, sane c.args.setup.size)

pub loop-m-smaller : goal.loop-m-smaller
loop-m-smaller c = omega (arith, few (goal.at.loop-m-smaller c).After-level-found, c.loop-m-test.true)

pub loop-m-preserved : goal.loop-m-preserved
loop-m-preserved c =
    let a = c.args in
    let lp = c.loop-m in
    let lv = c.level-found in
    let N = left (goal.at.loop-m-preserved c).After-level-found in
    let e : key_of lv.result.first ≡ none = ap key_of c.in_default.is in
    record {
      mid = subst (λ (x : ℕ). Mid (plan_of a.image.now a.setup a.start) lv.new.store (not lp.side) lv.result.t 0 x none (lp.c + lv.result.t)) (sym (add-one lp.k))
          (flip (plan_of a.image.now a.setup a.start) (fitted a.image.now a.setup a.start c.requires.0) lv.new.store lp.side lv.result.t lp.k lp.c
          (subst (λ (x : ℕ). Mid (plan_of a.image.now a.setup a.start) lv.new.store lp.side 0 lv.result.t lp.k x lp.c) e N.mid));
      steps = omega (arith, lp.invariant.steps, c.loop-m-test.true);
      long = N.long ∙ lp.invariant.long;
      tail = N.tail ∙ lp.invariant.tail;
    }

pub returns-clause-right : goal.returns-clause-right
returns-clause-right c =
    let a = c.args in
    let lp = c.loop-m in
    let e : lp.m ≡ 0 = omega (arith, c.loop-m-test.false) in
    clean (plan_of a.image.now a.setup a.start) (fitted a.image.now a.setup a.start c.requires.0) lp.store lp.side 0 lp.k lp.c
    (subst (λ (x : ℕ). Mid (plan_of a.image.now a.setup a.start) lp.store lp.side x 0 lp.k none lp.c) e lp.invariant.mid) refl
