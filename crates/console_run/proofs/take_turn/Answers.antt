use Rattle.std.proofs.Common.{◌≡◌, ℕ, ◌-◌, sym, ap, ◌∙◌, take, arith}
use Rattle.unit_head.specs.Head.{unit}
use Rattle.unit_advance.specs.Advance.{gone_over}
use Rattle.console_run.proofs.Turning.{takes_idle, takes_ahead, nothing_ahead, takes_full, takes_one}
use Rattle.console_run.proofs.take_turn.Goals as goal
use Rattle.console_run.proofs.take_turn.Goals.{Else-listed-gt0}

pub returns-then-is_idle : goal.returns-then-is_idle
returns-then-is_idle c =
    rw c.turn_of.ensures
    (takes_idle c.args.words.now c.args.sights.now c.args.head.now c.requires.0 c.requires.1 c.requires.2 (sym c.is_idle.ensures ∙ c.if-is_idle.true)
    c.advance_idle.new.head c.advance_idle.result c.advance_idle.ensures c.args.held c.args.out.now)

pub returns-then-listed-gt0 : goal.returns-then-listed-gt0
returns-then-listed-gt0 c =
    let steps : ℕ = c.list_ahead-listed.result.steps in
    let all : steps - 0 ≡ steps = omega arith in
    rw c.turn_of-then-listed-gt0.ensures
    (takes_ahead c.args.words.now c.args.sights.now c.args.head.now c.requires.0 c.requires.1 c.args.held c.args.out.now c.list_ahead-listed.result _
    c.list_ahead-listed.ensures c.if-listed-gt0.true c.advance_tried-gone.new.head c.advance_tried-gone.result
    (c.advance_tried-gone.ensures ∙ ap (λ (k : ℕ). gone_over (unit c.args.words.now c.args.head.now) (take k c.args.sights.now)) all))

-- where no step of a stretch was listed, the list is as it was
unlisted : (c : Else-listed-gt0) → c.list_ahead-listed.new.out ≡ c.args.out.now
unlisted c =
    nothing_ahead c.args.words.now c.args.sights.now c.args.head.now c.args.held c.args.out.now c.list_ahead-listed.result _
    c.list_ahead-listed.ensures c.if-listed-gt0.false

pub returns-in-None : goal.returns-in-None
returns-in-None c =
    rw (sym (unlisted (goal.at.returns-in-None c).Else-listed-gt0))
    (takes_full c.args.words.now c.args.head.now c.requires.0 c.args.held c.list_ahead-listed.new.out _ c.args.sights.now c.requires.2 c.requires.1
    c.list.result c.list.ensures c.unwrap_or.result c.unwrap_or.ensures c.in-None.is)

pub returns-in-Some : goal.returns-in-Some
returns-in-Some c =
    rw (c.turn_of-in-Some.ensures, sym (unlisted (goal.at.returns-in-Some c).Else-listed-gt0))
    (takes_one c.args.words.now c.args.head.now c.requires.0 c.args.held c.list_ahead-listed.new.out _ c.args.sights.now c.requires.2 c.requires.1
    c.list.result c.list.ensures c.unwrap_or.result c.unwrap_or.ensures c.in-Some.n c.in-Some.is c.advance_tried-gone-in-Some.new.head c.advance_tried-gone-in-Some.result
    c.advance_tried-gone-in-Some.ensures)
