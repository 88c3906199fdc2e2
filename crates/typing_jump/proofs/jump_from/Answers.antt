use Rattle.std.proofs.Common.{◌∙◌, ◌-◌, ◌+◌, ◌<◌, ◌≡◌, sym, arith}
use Rattle.typing_jump.proofs.Turns.{jump_one}
use Rattle.typing_jump.proofs.jump_from.Goals as goal

pub returns-in-Break : goal.returns-in-Break
returns-in-Break c =
    let h : 0 < c.args.n - c.loop.counter = omega arith in
    sym (c.loop.invariant ∙ jump_one _ _ _ h _ c.in-Break.ensures)

pub loop-preserved : goal.loop-preserved
loop-preserved c =
    let h : 0 < c.args.n - c.loop.counter = omega arith in
    let z : c.args.n - (c.loop.counter + 1) ≡ c.args.n - c.loop.counter - 1 = omega arith in
    rw (z, ← jump_one _ _ _ h _ c.in-Continue.ensures) c.loop.invariant
