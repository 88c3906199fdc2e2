use Rattle.std.proofs.Common.{◌≡◌, ℕ, sym, subst, ◌∙◌}
use Rattle.record_intake.specs.Intake.{OpenRecord, open_at}
use Rattle.record_intake.proofs.Laws.{whole_here}
use Rattle.record_intake.proofs.next.Goals as goal

pub returns-clause-by_index : goal.returns-clause-by_index
returns-clause-by_index c = λ s o.
    let none : open_at c.args.seen c.args.kept.now ≡ 0 = sym c.open_at-had.ensures.0 ∙ c.if-had-eq0.true in
    let w = c.in-Some.ensures in
    whole_here s c.args.kept.now c.args.piece.now _ w.0 w.1 w.2 (subst (λ (n : ℕ). OpenRecord n c.args.kept.now s) none o)
