use native.Mathlib.Omega.{arith}
use mathlib.Core.Path.{sym, ◌∙◌}
use Rattle.unit_stretch.proofs.Laws.{covered_none, covered_passed}
use Rattle.unit_stretch.proofs.pass.Goals as goal

pub loop-i-init : goal.loop-i-init
loop-i-init c = covered_none _ _ _

pub loop-i-preserved : goal.loop-i-preserved
loop-i-preserved c =
    let plain = sym c.is_data.ensures ∙ c.if-not-is_data.false in
    covered_passed c.args.words.now c.args.sights.now c.args.start c.loop-i.i (omega (arith, c.loop-i-test.true)) c.loop-i.state c.loop-i.invariant
    (omega (arith, c.if-end-at.false, c.clear_below-end.ensures)) c.requires plain
