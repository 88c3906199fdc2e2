-- The refusals and their numbers (01, "The validator": the table "No. / Refused when"; 02 adds to it).
use Rattle.std.specs.Prelude.{ℕ}
use Rattle.ground_refusals.specs.declared.Refusal.{Refusal}
use Rattle.ground_refusals.specs.declared.Refusal.TheVariants.{WrongSize, TooLong, OddStart, FarStart, ShortStore, CutOrShort, UnknownKind, UnknownSight, UnusedBit, WrongCount, UnknownKey}

abbrev pub refusal_number : Refusal → ℕ
refusal_number WrongSize = 1
refusal_number TooLong = 2
refusal_number OddStart = 3
refusal_number FarStart = 4
refusal_number ShortStore = 5
refusal_number CutOrShort = 6
refusal_number UnknownKind = 7
refusal_number UnknownSight = 8
refusal_number UnusedBit = 9
refusal_number WrongCount = 10
refusal_number UnknownKey = 13
