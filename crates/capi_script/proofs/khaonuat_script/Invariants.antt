use mathlib.Core.Path.{◌≡◌}
use Prim.Native.Nat.{◌-◌, ◌≤◌}
use lib.ListN.{length}
use Rattle.capi_script.proofs.Laws.{Playing}
use Rattle.capi_script.proofs.khaonuat_script.Given as goal

abbrev pub invariant-loop-from : goal.invariant-loop-from
invariant-loop-from l =
    (l.from ≤ length l.script) × (length l.out ≡ length l.initial.out) × Playing l.initial.out l.script l.out l.device l.from l.end

abbrev pub decreases-loop-from : goal.decreases-loop-from
decreases-loop-from l = length l.script - l.from
