use native.Mathlib.Omega.{arith}
use mathlib.Core.Path.{sym, ◌∙◌}
use mathlib.Core.Bool.{false}
use Rattle.unit_plain.proofs.Laws.{plain_here}
use Rattle.unit_ahead.proofs.Laws.{on_none, on_codes}
use Rattle.unit_ahead.proofs.list_codes.Goals as goal

pub loop-i-init : goal.loop-i-init
loop-i-init c = on_none _ _ _ _ _

pub loop-i-preserved : goal.loop-i-preserved
loop-i-preserved c =
    let writes = c.requires in
    let stands = plain_here c.args.words.now c.args.start.setup.size c.loop-i.state.address false _ _ _ _ (sym c.plain_at.ensures ∙ c.in-Some.is) in
    let unseen = sym c.seen_of.ensures ∙ c.if-seen_of-ne0.false in
    let bytes = simp (stands.first, stands.second) at c.after_codes.ensures in
    let put = simp (c.is_here-c1.ensures, c.is_here-c0.ensures, stands.first, stands.second) at c.list_pair-n.ensures in
    simp bytes
    (on_codes c.args.words.now c.args.cursor c.args.sights.now c.args.start c.args.held c.args.out.now c.loop-i.i c.loop-i.state c.loop-i.n c.loop-i.out c.loop-i.invariant
    (omega (arith, c.loop-i-test.true)) stands.near (rw writes.two stands.plain) unseen
    c.args.letters writes _ _ put.0 put.1)
