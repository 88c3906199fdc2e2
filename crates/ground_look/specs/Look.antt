-- One step of regeneration over the words of a buffer (01, "One step of regeneration"): what stands at a place, the faults in their
-- order, and where the step goes. The device and the validator share it.
use Rattle.std.specs.Prelude.{ℕ, ◌+◌, ◌*◌, ◌%◌, Bool, true, false, cond, eqb, ltb, None, Option, Some}
use Rattle.ground_orders.specs.declared.Row.{Row}
use Rattle.ground_setup.specs.Setup.{size_of, ahead_of}
use Rattle.ground_orders.specs.Orders.{order_of}
use Rattle.ground_setup.specs.declared.Setup.{Setup}
use Rattle.ground_setup.specs.declared.Size.{Size}
use Rattle.ground_orders.specs.declared.Mode.{Mode}
use Rattle.ground_orders.specs.declared.Mode.TheVariants.{Idle, Point, Vector, IncrementalPoint, IncrementalVector, Basic, Large}
use Rattle.ground_orders.specs.declared.Follows.{Follows}
use Rattle.ground_orders.specs.declared.Follows.TheVariants as follows
use Rattle.ground_groups.specs.declared.Group.{Group}
use Rattle.ground_groups.specs.declared.Group.TheVariants as group
use Rattle.ground_look.specs.declared.Fault.{Fault}
use Rattle.ground_look.specs.declared.Fault.TheVariants as fault
use Rattle.ground_look.specs.declared.Look.{Look}
use Rattle.ground_look.specs.declared.Look.TheVariants as look
use Rattle.ground_look.specs.declared.Begun.{Begun}
use Rattle.ground_look.specs.declared.Begun.TheVariants as begun

-- "1 a byte to be read is unwritten; 2 the code is in no row; 3 the target is odd; 4 the target is the buffer's size or more;
-- 5 in point or vector mode, the byte at A+2 is 2A where Y was due"
abbrev pub fault_number : Fault → ℕ
fault_number fault.Unwritten = 1
fault_number fault.NoRow = 2
fault_number fault.OddTarget = 3
fault_number fault.FarTarget = 4
fault_number fault.OrderForY = 5

-- what follows an order of length n: the step is done, or wants the next group
abbrev pub order_by : Size → ℕ → ℕ → Follows → Begun
order_by s a n (follows.Enter m) = begun.Done (look.Enter m (ahead_of s a n))
order_by s a n follows.Pass = begun.Done (look.Pass (ahead_of s a n))
order_by s a n follows.End = begun.Done (look.End (ahead_of s a n))
order_by s a n follows.Timer = begun.Done (look.Timer (ahead_of s a n))
order_by s a n (follows.SetPen p) = begun.Done (look.SetPen p (ahead_of s a n))
order_by s a n follows.Transfer = begun.Target false (ahead_of s a n)
order_by s a n follows.NoDetect = begun.Target true (ahead_of s a n)

-- "2 the code is in no row"
abbrev pub found_by : Setup → ℕ → Option Row → Begun
found_by su a None = begun.Done (look.Fault fault.NoRow)
found_by su a (Some r) = order_by su.size a r.length r.follows

-- "Point and vector read A+2 and A+3 too": their data are coordinates
abbrev pub placing : Mode → Bool
placing Idle = false
placing Point = true
placing Vector = true
placing IncrementalPoint = false
placing IncrementalVector = false
placing Basic = false
placing Large = false

-- "No order: idle, incremental and character modes take the word and go to A+2. Point and vector read A+2 and A+3 too and go to A+4."
abbrev pub data_by : Size → ℕ → ℕ → ℕ → Mode → Begun
data_by s a b₁ b₂ m = cond (placing m) (begun.Coordinate b₁ b₂ (ahead_of s a 4)) (begun.Done (look.Two b₁ b₂ (ahead_of s a 2)))

-- "Read A and A+1. If the byte at A is 2A, this is an order: A+1 is its code."
abbrev pub first_by : Setup → ℕ → Mode → Group → Begun
first_by su a m group.Unwritten = begun.Done (look.Fault fault.Unwritten)
first_by su a m (group.Bad at) = begun.Done (look.Check at)
first_by su a m (group.Bytes b₁ b₂) = cond (eqb b₁ 0x2A) (found_by su a (order_of b₂)) (data_by su.size a b₁ b₂ m)

-- "the target is checked even where the transfer isn't taken. Then the place is the target (idle), or A+4 (idle) for a transfer not taken."
abbrev pub target_by : Size → Bool → ℕ → ℕ → Look
target_by s may next t =
    cond (eqb (t % 2) 1) (look.Fault fault.OddTarget)
    (cond (ltb t (size_of s)) (cond may (look.Either t next) (look.Jump t)) (look.Fault fault.FarTarget))

-- a transfer's second group, "an address, high byte first"
abbrev pub target_in : Size → Bool → ℕ → Group → Look
target_in s may next group.Unwritten = look.Fault fault.Unwritten
target_in s may next (group.Bad at) = look.Check at
target_in s may next (group.Bytes b₃ b₄) = target_by s may next (b₃ * 0x100 + b₄)

-- a coordinate's second group, where Y is due
abbrev pub coordinate_in : ℕ → ℕ → ℕ → Group → Look
coordinate_in b₁ b₂ next group.Unwritten = look.Fault fault.Unwritten
coordinate_in b₁ b₂ next (group.Bad at) = look.Check at
coordinate_in b₁ b₂ next (group.Bytes b₃ b₄) =
    cond (eqb b₃ 0x2A) (look.Fault fault.OrderForY) (look.Four b₁ b₂ b₃ b₄ next)

-- the second group, where it is wanted
abbrev pub second_by : Size → Begun → Group → Look
second_by s (begun.Done l) g = l
second_by s (begun.Target may next) g = target_in s may next g
second_by s (begun.Coordinate b₁ b₂ next) g = coordinate_in b₁ b₂ next g

-- one look: at the group at A in a mode, and at the one at A+2 where it is wanted
unfoldable pub look_of : (ℕ → Group) → Setup → ℕ → Mode → Look
look_of fetch su a m = second_by su.size (first_by su a m (fetch a)) (fetch (ahead_of su.size a 2))
