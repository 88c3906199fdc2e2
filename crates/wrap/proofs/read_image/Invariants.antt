use Prim.Native.Nat.{◌-◌, ◌≤◌}
use mathlib.Core.Path.{◌≡◌}
use lib.ListN.{length}
use Rattle.wrap.proofs.read_image.Given as goal

abbrev pub invariant-loop-end : goal.invariant-loop-end
invariant-loop-end l = (l.end ≤ l.room) × (l.room ≡ length l.initial.space) × (length l.space ≡ length l.initial.space)

abbrev pub decreases-loop-end : goal.decreases-loop-end
decreases-loop-end l = l.room - l.end
