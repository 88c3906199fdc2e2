use Prim.Native.Nat.{◌-◌}
use lib.ListN.{length}
use Rattle.console_dialogue.proofs.Laws.{Taking}
use Rattle.console_dialogue.proofs.Dialogue.feed.Given as goal

abbrev pub invariant-loop-used : goal.invariant-loop-used
invariant-loop-used l = Taking l.initial.self l.initial.kept l.piece l.initial.out l.self l.used l.end l.kept l.out

abbrev pub decreases-loop-used : goal.decreases-loop-used
decreases-loop-used l = length l.piece - l.used
