-- A look at the words of a buffer finds bytes, and leads to addresses of the buffer. Assumes nothing.
use Rattle.std.specs.Prelude.{None, Option, Some}
use Rattle.ground_orders.specs.declared.Row.{Row}
use Prim.Native.Nat.{ℕ, ◌+◌, ◌*◌, ◌%◌, ◌<◌}
use native.Mathlib.Omega.{arith}
use mathlib.Core.Path.{◌≡◌, refl}
use mathlib.Core.Bool.{Bool, true, false, cond, ◌&&◌}
use mathlib.Core.List.{List}
use lib.Dec.{eqb, ltb}
use lib.ListN.{get_or}
use borrow.Author.Tests.{ltb-true}
use Rattle.ground_location.specs.Location.{written_of, good_of}
use Rattle.ground_setup.specs.Setup.{size_of, wrap_of, ahead_of}
use Rattle.ground_orders.specs.Orders.{order_of}
use Rattle.ground_setup.specs.declared.Size.{Size}
use Rattle.ground_setup.specs.declared.Setup.{Setup}
use Rattle.ground_setup.proofs.Laws.{below}
use Rattle.ground_orders.specs.declared.Mode.{Mode}
use Rattle.ground_orders.specs.declared.Mode.TheVariants as mode
use Rattle.ground_orders.specs.declared.Follows.{Follows}
use Rattle.ground_orders.specs.declared.Follows.TheVariants as follows
use Rattle.unit_beam.specs.declared.Beam.{Beam}
use Rattle.ground_groups.specs.declared.Group.{Group}
use Rattle.ground_groups.specs.declared.Group.TheVariants as group
use Rattle.ground_look.specs.declared.Fault.TheVariants as fault
use Rattle.ground_look.specs.declared.Look.{Look}
use Rattle.ground_look.specs.declared.Look.TheVariants as look
use Rattle.ground_look.specs.declared.Begun.{Begun}
use Rattle.ground_look.specs.declared.Begun.TheVariants as begun
use Rattle.ground_groups.specs.Groups.{words_group}
use Rattle.ground_look.specs.Look.{order_by, found_by, placing, data_by, first_by, second_by, look_of}
use Rattle.unit_motion.specs.Motion.{two_of, four_of, motion_of}
use Rattle.ground_words.proofs.Laws.{either_way}
use Rattle.theorem_wellmade.proofs.Beams.{MotionMade, placed_made, stepped_made}

module _ (s : Size) where
  abbrev pub GroupMade : Group → Type 0
  GroupMade group.Unwritten = Unit {0}
  GroupMade (group.Bad a) = a < size_of s
  GroupMade (group.Bytes b₁ b₂) = (b₁ < 256) × (b₂ < 256)

  abbrev pub LookMade : Look → Type 0
  LookMade (look.Fault f) = Unit {0}
  LookMade (look.Check a) = a < size_of s
  LookMade (look.Enter m next) = next < size_of s
  LookMade (look.Pass next) = next < size_of s
  LookMade (look.Timer next) = next < size_of s
  LookMade (look.SetPen p next) = next < size_of s
  LookMade (look.End next) = next < size_of s
  LookMade (look.Jump target) = target < size_of s
  LookMade (look.Either target next) = (target < size_of s) × (next < size_of s)
  LookMade (look.Two b₁ b₂ next) = next < size_of s
  LookMade (look.Four b₁ b₂ b₃ b₄ next) = (b₂ < 256) × (b₄ < 256) × (next < size_of s)

  abbrev BegunMade : Begun → Type 0
  BegunMade (begun.Done l) = LookMade l
  BegunMade (begun.Target may next) = next < size_of s
  BegunMade (begun.Coordinate b₁ b₂ next) = (b₂ < 256) × (next < size_of s)

module _ (su : Setup) where
  abbrev s : Size
  s = su.size

  group_made : (words : List ℕ) (a : ℕ) → GroupMade s (words_group words su a)
  unfolding words_group
  group_made words a =
      let w = get_or words (wrap_of s a) 0 in
      let v = get_or words (ahead_of s a 1) 0 in
      either_way (GroupMade s) (written_of w && written_of v)
      (either_way (GroupMade s) (good_of w) (either_way (GroupMade s) (good_of v) (omega arith, omega arith) (below s (wrap_of s a + 1))) (below s a))
      tt

  module _ (a : ℕ) where
    on : (n : ℕ) → ahead_of s a n < size_of s
    on n = below s (wrap_of s a + n)

    order_made : (n : ℕ) (f : Follows) → BegunMade s (order_by s a n f)
    order_made n (follows.Enter m) = on n
    order_made n follows.Pass = on n
    order_made n follows.End = on n
    order_made n follows.Timer = on n
    order_made n (follows.SetPen p) = on n
    order_made n follows.Transfer = on n
    order_made n follows.NoDetect = on n

    found_made : (f : Option Row) → BegunMade s (found_by su a f)
    found_made None = tt
    found_made (Some r) = order_made r.length r.follows

    data_made : (b₁ b₂ : ℕ) (m : Mode) → b₂ < 256 → BegunMade s (data_by s a b₁ b₂ m)
    data_made b₁ b₂ m h = either_way (BegunMade s) (placing m) (h, on 4) (on 2)

    first_made : (m : Mode) (g : Group) → GroupMade s g → BegunMade s (first_by su a m g)
    first_made m group.Unwritten h = tt
    first_made m (group.Bad at) h = h
    first_made m (group.Bytes b₁ b₂) h = either_way (BegunMade s) (eqb b₁ 0x2A) (found_made (order_of b₂)) (data_made b₁ b₂ m h.1)

  target_by_lem : (may near : Bool) (t next : ℕ) → (near ≡ true → t < size_of s) → next < size_of s → LookMade s (cond near (cond may (look.Either t next) (look.Jump t)) (look.Fault fault.FarTarget))
  target_by_lem may true t next h l = either_way (LookMade s) may (h refl, l) (h refl)
  target_by_lem may false t next h l = tt

  second_made : (b : Begun) (g : Group) → BegunMade s b → GroupMade s g → LookMade s (second_by s b g)
  second_made (begun.Done l) g h k = h
  second_made (begun.Target may next) group.Unwritten h k = tt
  second_made (begun.Target may next) (group.Bad at) h k = k
  second_made (begun.Target may next) (group.Bytes b₃ b₄) h k =
      let t = b₃ * 0x100 + b₄ in
      either_way (LookMade s) (eqb (t % 2) 1) tt (target_by_lem may (ltb t (size_of s)) t next (ltb-true t (size_of s)) h)
  second_made (begun.Coordinate b₁ b₂ next) group.Unwritten h k = tt
  second_made (begun.Coordinate b₁ b₂ next) (group.Bad at) h k = k
  second_made (begun.Coordinate b₁ b₂ next) (group.Bytes b₃ b₄) h k = either_way (LookMade s) (eqb b₃ 0x2A) tt (h.0, k.1, h.1)

  pub look_made : (words : List ℕ) (a : ℕ) (m : Mode) → LookMade s (look_of (words_group words su) su a m)
  unfolding look_of
  look_made words a m =
      second_made (first_by su a m (words_group words su a)) (words_group words su (ahead_of s a 2))
      (first_made a m (words_group words su a) (group_made words a)) (group_made words (ahead_of s a 2))

two_made : (a b : ℕ) (m : Mode) (beam : Beam) → MotionMade (two_of m a b beam)
unfolding two_of
two_made a b mode.Idle beam = tt
two_made a b mode.Point beam = tt
two_made a b mode.Vector beam = tt
two_made a b mode.IncrementalPoint beam = stepped_made beam a b
two_made a b mode.IncrementalVector beam = stepped_made beam a b
two_made a b mode.Basic beam = tt
two_made a b mode.Large beam = tt

four_made : (a b c d : ℕ) (m : Mode) → b < 256 → d < 256 → MotionMade (four_of m a b c d)
unfolding four_of
four_made a b c d mode.Idle h l = tt
four_made a b c d mode.Point h l = placed_made a b c d h l
four_made a b c d mode.Vector h l = placed_made a b c d h l
four_made a b c d mode.IncrementalPoint h l = tt
four_made a b c d mode.IncrementalVector h l = tt
four_made a b c d mode.Basic h l = tt
four_made a b c d mode.Large h l = tt

-- what a look comes to leaves the beam within ten bits
pub motion_made : (s : Size) (l : Look) (m : Mode) (beam : Beam) → LookMade s l → MotionMade (motion_of l m beam)
unfolding motion_of
motion_made s (look.Fault f) m beam h = tt
motion_made s (look.Check a) m beam h = tt
motion_made s (look.Enter n next) m beam h = tt
motion_made s (look.Pass next) m beam h = tt
motion_made s (look.Timer next) m beam h = tt
motion_made s (look.SetPen p next) m beam h = tt
motion_made s (look.End next) m beam h = tt
motion_made s (look.Jump target) m beam h = tt
motion_made s (look.Either target next) m beam h = tt
motion_made s (look.Two a b next) m beam h = two_made a b m beam
motion_made s (look.Four a b c d next) m beam h = four_made a b c d m h.0 h.1
