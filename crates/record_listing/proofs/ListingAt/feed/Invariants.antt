use mathlib.Core.Path.{◌≡◌}
use Prim.Native.Nat.{◌-◌}
use lib.ListN.{length}
use Rattle.record_listing.specs.Listing.{Feeds, StoreLeft}
use Rattle.record_listing.proofs.Laws.{fed}
use Rattle.record_listing.proofs.ListingAt.feed.Given as goal

abbrev pub invariant-loop-used : goal.invariant-loop-used
invariant-loop-used l =
    (length l.out ≡ length l.initial.out) × Feeds l.initial.self l.initial.kept l.piece l.initial.out 0 (fed l.used l.end) l.self l.kept l.out
    × StoreLeft l.initial.store l.store
    × (l.used ≡ 0 → (l.end ≡ 0) × (l.self ≡ l.initial.self))

abbrev pub decreases-loop-used : goal.decreases-loop-used
decreases-loop-used l = length l.piece - l.used
