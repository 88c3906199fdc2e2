use Rattle.std.proofs.Common.{arith}
use Rattle.text_parts.proofs.Laws.{to_the_end}
use Rattle.record_listing.proofs.Laws.{feeds_on, left_on}
use Rattle.record_listing.proofs.ListingAt.feed.Goals as goal

pub loop-used-preserved : goal.loop-used-preserved
loop-used-preserved c =
    let l = c.loop-used in
    let a = c.args in
    let n = c.step-fed in (
      omega arith,
      feeds_on a.self.now l.self _ 0 l.used l.end _ _ a.kept.now l.kept _ a.piece.now _ a.out.now l.out _ l.invariant.1 (to_the_end a.piece.now l.used) l.invariant.0
          n.ensures.feeds,
      left_on _ _ _ l.invariant.2 n.ensures.store_left.0,
      λ e. absurd (omega (arith, n.ensures.store_left.1)),
    )
