use Prim.Native.Nat.{◌+◌}
use native.Mathlib.Omega.{arith}
use mathlib.Core.Path.{◌≡◌, sym, ap, ◌∙◌}
use mathlib.Core.Bool.{true}
use Rattle.unit_step.specs.Run.{is_idle}
use Rattle.unit_advance.proofs.Going.{Going, goes_further, going_none, going_stretch, going_step, going_all, going_stops}
use Rattle.unit_advance.proofs.advance_from.Goals as goal
use Rattle.unit_advance.proofs.advance_from.Goals.{After-over-over}

pub loop-i-init : goal.loop-i-init
loop-i-init c = going_none _ _ _ _

-- where only idle steps are wanted, the next is one
ready : (c : After-over-over) → c.args.idle ≡ true → is_idle c.loop-i.state.mode ≡ true
ready c = goes_further _ _ (sym c.is_over.ensures ∙ c.if-is_over.false)

-- and behind a stretch too
still_ready : (c : After-over-over) → c.args.idle ≡ true → is_idle c.over-over.result.state.mode ≡ true
still_ready c q = ap is_idle c.over-over.ensures.stays ∙ ready c q

-- as far as the stretch has come
stretched : (c : After-over-over)
    → Going c.args.words.now c.args.sights.now c.args.start c.args.idle (c.loop-i.i + c.over-over.result.steps) c.over-over.result.state
stretched c =
    going_stretch c.args.words.now c.args.sights.now c.args.start c.args.idle c.loop-i.i c.loop-i.state c.loop-i.invariant c.over-over.result (ready c)
    c.over-over.ensures

pub loop-i-preserved : goal.loop-i-preserved
loop-i-preserved c =
    let at = (goal.at.loop-i-preserved c).After-over-over in
    going_step _ _ _ _ _ _ (stretched at) (omega (arith, c.if-sights-i.false)) (still_ready at) c.in-Goes.next (sym c.step_from.ensures ∙ c.in-Goes.is)

pub returns-in-Stops : goal.returns-in-Stops
returns-in-Stops c =
    let at = (goal.at.returns-in-Stops c).After-over-over in
    simp c.steps_at.ensures.0
    (sym (going_stops _ _ _ _ _ _ (stretched at) (omega (arith, c.if-sights-i.false)) (still_ready at) c.in-Stops.last c.in-Stops.stop (sym c.step_from.ensures ∙ c.in-Stops.is)))

pub returns-then-sights-i : goal.returns-then-sights-i
returns-then-sights-i c = sym (going_all _ _ _ _ _ _ (stretched (goal.at.returns-then-sights-i c).After-over-over) (omega arith))
