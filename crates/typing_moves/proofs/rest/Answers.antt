use Rattle.std.proofs.Common.{◌∙◌, ◌-◌, ◌+◌, ◌<◌, ◌≡◌, sym, arith}
use Rattle.typing_moves.proofs.Turns.{rest_one}
use Rattle.typing_moves.proofs.rest.Goals as goal

pub returns-in-None : goal.returns-in-None
returns-in-None c =
    let h : 0 < c.args.n - c.loop.counter = omega arith in
    sym (c.loop.invariant ∙ rest_one _ _ _ _ _ h _ c.in-None.ensures)

pub loop-preserved : goal.loop-preserved
loop-preserved c =
    let h : 0 < c.args.n - c.loop.counter = omega arith in
    let z : c.args.n - (c.loop.counter + 1) ≡ c.args.n - c.loop.counter - 1 = omega arith in
    rw (z, ← rest_one _ _ _ _ _ h _ c.in-Some.ensures) c.loop.invariant
