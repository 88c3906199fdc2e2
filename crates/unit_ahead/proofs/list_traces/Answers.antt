use native.Mathlib.Omega.{arith}
use mathlib.Core.Path.{refl, sym, ◌∙◌}
use Rattle.unit_plain.proofs.Laws.{plain_here}
use Rattle.unit_ahead.proofs.Laws.{on_none, on_done, on_full, on_trace}
use Rattle.unit_ahead.proofs.list_traces.Goals as goal

pub loop-i-init : goal.loop-i-init
loop-i-init c = λ k. on_none _ _ _ _ _

pub loop-i-preserved : goal.loop-i-preserved
loop-i-preserved c = λ k.
    let placing = c.is_placing-placing.ensures in
    let stands = plain_here c.args.words.now c.args.start.setup.size c.loop-i.state.address _ _ _ _ _ (simp placing at (sym c.plain_at.ensures ∙ c.in-Some.is)) in
    let unseen = sym c.seen_of.ensures ∙ c.if-seen_of-ne0.false in
    let to = simp (stands.first, stands.second, stands.third, stands.fourth, placing) at c.led_to-shift.ensures in
    let blanked = simp (stands.first, stands.second, placing) at c.is_blanked-blanked.ensures in
    let put = simp (to, blanked) at c.list_trace.ensures in
    simp (c.span-span.ensures.0, placing, to)
    (on_trace c.args.words.now k c.args.sights.now c.args.start c.args.held c.args.out.now c.loop-i.i c.loop-i.state c.loop-i.n c.loop-i.out (c.loop-i.invariant k)
    (omega (arith, c.loop-i-test.true)) stands.near stands.plain unseen
    c.args.vector c.requires _ _ (sym put.0 ∙ c.in-Some-list_trace.is) put.1)

pub returns : goal.returns
returns c = λ k. on_done _ _ _ _ _ _ _ _ _ (c.loop-i.invariant k) _ (omega arith) refl

pub returns-then-seen_of-ne0 : goal.returns-then-seen_of-ne0
returns-then-seen_of-ne0 c = λ k. on_done _ _ _ _ _ _ _ _ _ (c.loop-i.invariant k) _ refl refl

pub returns-in_default : goal.returns-in_default
returns-in_default c = λ k. on_done _ _ _ _ _ _ _ _ _ (c.loop-i.invariant k) _ refl refl

pub returns-in_default-list_trace : goal.returns-in_default-list_trace
returns-in_default-list_trace c = λ k.
    let put = c.list_trace.ensures in
    on_done _ _ _ _ _ _ _ _ _ (on_full _ _ _ _ _ _ _ _ _ (c.loop-i.invariant k) _ _ (sym put.0 ∙ c.in_default-list_trace.is) put.1) _ refl refl
