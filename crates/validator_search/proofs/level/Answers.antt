-- A level goes on from turn to turn.
use Rattle.std.proofs.Common.{◌≡◌, ℕ, ◌+◌, ◌-◌, ◌∙◌, subst, arith}
use Rattle.validator_search.specs.Invariant.{plan_of, Mid, Next, key_of}
use Rattle.validator_search.proofs.level.Goals as goal

pub turn-found-requires : goal.turn-found-requires
turn-found-requires c =
    let a = c.args in
    let lp = c.loop-rest in
    let A = c.requires in
    let N = lp.invariant A.0 A.1 A.2 A.3 A.5 in
    let e : lp.rest ≡ lp.rest - 1 + 1 = omega arith in
    (A.0, A.1, A.2, A.3, N.low, subst (λ (x : ℕ). Mid (plan_of a.image.now a.setup A.0) lp.store a.side x lp.found.t A.1 (key_of lp.found.first) A.2) e N.mid)

pub loop-rest-preserved : goal.loop-rest-preserved
loop-rest-preserved c = λ start k n h M.
    let a = c.args in
    let lp = c.loop-rest in
    let N = lp.invariant start k n h M in
    let e : lp.rest ≡ lp.rest - 1 + 1 = omega arith in
    let R = c.turn-found.ensures start k n h (subst (λ (x : ℕ). Mid (plan_of a.image.now a.setup start) lp.store a.side x lp.found.t k (key_of lp.found.first) n) e N.mid) N.low in
    record { mid = R.mid; low = R.low; long = R.long ∙ N.long; tail = R.tail ∙ N.tail }

pub returns : goal.returns
returns c = λ start k n h M.
    let a = c.args in
    let lp = c.loop-rest in
    let e : lp.rest ≡ 0 = omega arith in
    subst (λ (x : ℕ). Next (plan_of a.image.now a.setup start) a.store.now lp.store a.side x lp.found.t k (key_of lp.found.first) n) e (lp.invariant start k n h M)
