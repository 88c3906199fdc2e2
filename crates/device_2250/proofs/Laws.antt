-- The device's array has room for a buffer of any size. Assumes nothing.
use Prim.Native.Nat.{◌≤◌}
use native.Mathlib.Omega.{arith}
use Rattle.ground_setup.specs.Setup.{size_of}
use Rattle.ground_setup.specs.declared.Size.{Size}
use Rattle.ground_setup.specs.declared.Size.TheVariants.{K4, K8}

pub houses : (s : Size) → size_of s ≤ 8192
houses K4 = omega arith
houses K8 = omega arith
