use Rattle.std.proofs.Common.{ℕ, List, ◌++◌, sym, ap, subst, ◌∙◌, arith}
use Rattle.record_intake.specs.Intake.{OpenRecord, open_at, open_of, WholeRecord}
use Rattle.record_listing.proofs.Laws.{feeds_open, feeds_line, left_line}
use Rattle.record_listing.proofs.ListingAt.step.Goals as goal

pub returns-in_default-clause-feeds : goal.returns-in_default-clause-feeds
returns-in_default-clause-feeds c =
    let a = c.args in
    let kept = c.next-found.new.kept in
    let seen = c.open_of-self.ensures ∙ ap open_of c.in_default.is in
    feeds_open a.self.now a.at _ a.kept.now kept a.piece.now a.out.now (omega arith)
    (λ s o. subst (λ (n : ℕ). OpenRecord (open_at n kept) kept (s ++ a.piece.now)) (sym seen) (c.in_default.ensures.by_index s o))

pub returns-clause-feeds : goal.returns-clause-feeds
returns-clause-feeds c =
    let a = c.args in
    let used = c.in-Whole.ensures.used_in in
    feeds_line a.self.now a.at _ _ a.kept.now c.next-found.new.kept a.piece.now _ a.out.now _ a.store.now _ c.requires.1 (omega arith)
    used.0 used.1 c.put_line-end.ensures
    (λ s o. subst (λ (first : List ℕ). WholeRecord s a.piece.now first c.in-Whole.used) (sym c.first_found-whole.ensures) (c.in-Whole.ensures.by_index s o))

pub returns-clause-store_left : goal.returns-clause-store_left
returns-clause-store_left c =
    (left_line _ _ _ _ _ _ _ _ (omega arith) c.put_line-end.ensures, c.in-Whole.ensures.used_in.0)
