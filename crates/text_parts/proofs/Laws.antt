-- What stands from a place on, counted.
use Prim.Native.Nat.{ℕ, ◌-◌}
use mathlib.Core.Path.{◌≡◌}
use mathlib.Core.List.{List}
use native.Mathlib.Omega.{arith}
use lib.ListN.{length, take, drop, length-drop}
use lib.Seq.{take_all}

pub to_the_end : (line : List ℕ) (from : ℕ) → take (length line - from) (drop from line) ≡ drop from line
to_the_end line from = take_all (length line - from) (drop from line) (omega (arith, length-drop from line))
