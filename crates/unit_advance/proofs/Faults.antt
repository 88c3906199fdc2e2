-- The number of an end by a fault is the fault's. Assumes nothing.
use mathlib.Core.Path.{◌≡◌, refl}
use Rattle.ground_look.specs.Look.{fault_number}
use Rattle.ground_look.specs.declared.Fault.{Fault}
use Rattle.ground_look.specs.declared.Fault.TheVariants as fault
use Rattle.unit_advance.specs.Advance.{fault_end}

pub fault_ends : (f : Fault) → fault_end f ≡ fault_number f
fault_ends fault.Unwritten = refl
fault_ends fault.NoRow = refl
fault_ends fault.OddTarget = refl
fault_ends fault.FarTarget = refl
fault_ends fault.OrderForY = refl
