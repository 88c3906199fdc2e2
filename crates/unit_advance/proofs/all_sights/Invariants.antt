use mathlib.Core.Path.{◌≡◌}
use mathlib.Core.Bool.{◌&&◌}
use lib.Dec.{leb}
use lib.ListN.{drop}
use Rattle.unit_advance.specs.Advance.{all_sights}
use Rattle.unit_advance.proofs.all_sights.Given as goal

abbrev pub invariant-loop-sight : goal.invariant-loop-sight
invariant-loop-sight l = all_sights l.sights ≡ (leb l.greatest 2 && all_sights (drop l.sight-index l.sights))
