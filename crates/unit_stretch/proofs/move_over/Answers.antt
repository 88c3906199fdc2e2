use native.Mathlib.Omega.{arith}
use mathlib.Core.Path.{sym, ◌∙◌}
use Rattle.unit_plain.proofs.Laws.{plain_here}
use Rattle.unit_stretch.proofs.Laws.{covered_none, covered_moved}
use Rattle.unit_stretch.proofs.move_over.Goals as goal

pub loop-i-init : goal.loop-i-init
loop-i-init c = covered_none _ _ _

pub loop-i-preserved : goal.loop-i-preserved
loop-i-preserved c =
    let placing = c.is_placing-placing.ensures in
    let stands = plain_here c.args.words.now c.args.start.setup.size c.loop-i.state.address _ _ _ _ _ (simp placing at (sym c.plain_at.ensures ∙ c.in-Some.is)) in
    let unseen = sym c.seen_of.ensures ∙ c.if-seen_of-ne0.false in
    simp (c.span-span.ensures.0, placing, c.moved_by.ensures, stands.first, stands.second, stands.third, stands.fourth)
    (covered_moved c.args.words.now c.args.sights.now c.args.start c.loop-i.i (omega (arith, c.loop-i-test.true)) c.loop-i.state c.loop-i.invariant stands.near stands.plain unseen)
