-- The sizes of a buffer, and addresses that go round in it (01, "What the unit is here" and "One step of regeneration").
use Rattle.std.specs.Prelude.{ℕ, ◌+◌, ◌%◌, ◌<◌, cond, eqb, Err, Ok, Result}
use Rattle.ground_refusals.specs.declared.Refusal.{Refusal}
use Rattle.ground_refusals.specs.declared.Refusal.TheVariants.{WrongSize}
use Rattle.ground_setup.specs.declared.Size.{Size}
use Rattle.ground_setup.specs.declared.Size.TheVariants.{K4, K8}
use Rattle.ground_setup.specs.declared.Setup.{Setup}

-- "buffer (4,096 or 8,192 locations)"
abbrev pub size_of : Size → ℕ
size_of K4 = 4096
size_of K8 = 8192

-- "size is neither 4,096 nor 8,192" is refusal 1
abbrev pub sized_of : ℕ → Result Size Refusal
sized_of n = cond (eqb n (size_of K4)) (Ok K4) (cond (eqb n (size_of K8)) (Ok K8) (Err WrongSize))

abbrev pub setup : Size → Setup
setup s = record { size = s }

-- an address of the buffer: below its size, and so of fifteen bits
pub record Inside (s : Size) (a : ℕ) : Type 0 where
  pub below : a < size_of s
  pub short : a < 0x8000

-- "Addresses go round at the buffer's size."
abbrev pub wrap_of : Size → ℕ → ℕ
wrap_of s a = a % size_of s

-- the address k on from A
abbrev pub ahead_of : Size → ℕ → ℕ → ℕ
ahead_of s a k = wrap_of s (wrap_of s a + k)
