use Rattle.std.proofs.Common.{◌-◌, ◌≡◌, [], length, true}
use Rattle.text_stream.proofs.Laws.{Between}
use Rattle.text_stream.proofs.stream.Given as goal

abbrev pub invariant-reads : goal.invariant-reads
invariant-reads g l = (l.output.open ≡ true) × Between g.L.Listener.Stands l.listener [] l.output l.count

abbrev pub decreases-reads : goal.decreases-reads
decreases-reads g l = 18446744073709551615 - l.count

abbrev pub invariant-feeds : goal.invariant-feeds
invariant-feeds g l = Between g.L.Listener.Stands l.listener l.rest l.output l.count

abbrev pub decreases-feeds : goal.decreases-feeds
decreases-feeds g l = length l.rest
