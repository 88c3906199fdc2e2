-- Input that is read piece by piece. No contract can say which bytes a read gives; this says how many there are.
use Rattle.std.specs.Prelude.{ℕ, ◌≤◌, ◌<◌}
use Rattle.text_input.specs.declared.Came.{Came}
use Rattle.text_input.specs.declared.Came.TheVariants.{Bytes, End, Failed}

-- at least one byte, and no more than the buffer has
abbrev pub CameWithin : ℕ → Came → Type 0
CameWithin room (Bytes count) = (0 < count) × (count ≤ room)
CameWithin room End = Unit {0}
CameWithin room Failed = Unit {0}
