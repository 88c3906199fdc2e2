-- What every row of the table has: a command that needs a stopped buffer is not done while it runs, and one that sets the address takes one.
-- Assumes nothing.
use Prim.Native.Nat.{ℕ}
use mathlib.Core.Path.{◌≡◌, refl}
use mathlib.Core.Bool.{false}
use lib.Dec.{eqb}
use Rattle.ground_words.proofs.Laws.{either_way}
use Rattle.unit_codes.specs.Codes.{row_of}
use Rattle.unit_codes.specs.declared.Command.{Command}
use Rattle.unit_codes.specs.declared.Command.TheVariants.{TestIo, WriteBuffer, ReadBuffer, NoOperation, Sense, ReadCursor, SetAndStop, Alarm, InsertCursor, ReadXy, RemoveCursor, SetAndStart, Invalid}
use Rattle.unit_codes.specs.declared.Takes.TheVariants.{Address, Start}
use Rattle.unit_codes.specs.declared.CommandRow.{CommandRow}

abbrev pub RowFits : CommandRow → Command → Type 0
RowFits row TestIo = Unit {0}
RowFits row WriteBuffer = row.running ≡ false
RowFits row ReadBuffer = row.running ≡ false
RowFits row NoOperation = Unit {0}
RowFits row Sense = Unit {0}
RowFits row ReadCursor = row.running ≡ false
RowFits row SetAndStop = row.takes ≡ Address
RowFits row Alarm = Unit {0}
RowFits row InsertCursor = row.running ≡ false
RowFits row ReadXy = row.running ≡ false
RowFits row RemoveCursor = row.running ≡ false
RowFits row SetAndStart = row.takes ≡ Start
RowFits row Invalid = Unit {0}

abbrev Fits-own : CommandRow → Type 0
Fits-own row = RowFits row row.command

pub row_fits : (c : ℕ) → RowFits (row_of c) (row_of c).command
unfolding row_of
row_fits c =
    either_way Fits-own (eqb c 0x00) tt
    (either_way Fits-own (eqb c 0x01) refl
    (either_way Fits-own (eqb c 0x02) refl
    (either_way Fits-own (eqb c 0x03) tt
    (either_way Fits-own (eqb c 0x04) tt
    (either_way Fits-own (eqb c 0x06) refl
    (either_way Fits-own (eqb c 0x07) refl
    (either_way Fits-own (eqb c 0x0B) tt
    (either_way Fits-own (eqb c 0x0F) refl
    (either_way Fits-own (eqb c 0x12) refl
    (either_way Fits-own (eqb c 0x1F) refl (either_way Fits-own (eqb c 0x27) refl tt)))))))))))
