-- The orders, one row each (01, "How to write each place"; 000 p.24, Table 4).
use Rattle.std.specs.Prelude.{ℕ, cond, List, [], ◌∷◌, eqb, None, Option, Some}
use Rattle.ground_orders.specs.declared.Mode.TheVariants.{Point, Vector, IncrementalPoint, IncrementalVector, Basic, Large}
use Rattle.ground_orders.specs.declared.PenMode.TheVariants.{Normal, Disabled, NoSwitch}
use Rattle.ground_orders.specs.declared.Follows.{Follows}
use Rattle.ground_orders.specs.declared.Follows.TheVariants.{Enter, Pass, End, Timer, SetPen, Transfer, NoDetect}
use Rattle.ground_orders.specs.declared.Row.{Row}

-- "The orders stand as one table of rows: code, length, what follows."
abbrev pub row : ℕ → ℕ → Follows → Row
row c n f = record { code = c; length = n; follows = f }

-- 000 p.24, Table 4, with 50, 51 and 52 from its notes 4 and 5
unfoldable pub table : List Row
table =
    row 0x00 2 (Enter Point)
    ∷ row 0x02 2 (Enter Vector)
    ∷ row 0x04 2 (Enter IncrementalPoint)
    ∷ row 0x05 2 (Enter IncrementalVector)
    ∷ row 0x40 2 (Enter Basic)
    ∷ row 0x41 2 (Enter Large)
    ∷ row 0x44 2 (Enter Basic)
    ∷ row 0x45 2 (Enter Large)
    ∷ row 0x50 2 (Enter Basic)
    ∷ row 0x51 2 (Enter Large)
    ∷ row 0x52 2 (Enter Basic)
    ∷ row 0x80 2 Pass
    ∷ row 0x81 2 End
    ∷ row 0x82 2 Timer
    ∷ row 0x84 2 (SetPen Normal)
    ∷ row 0x85 2 (SetPen Disabled)
    ∷ row 0x86 2 (SetPen NoSwitch)
    ∷ row 0xC0 4 Pass
    ∷ row 0xFD 4 NoDetect
    ∷ row 0xFF 4 Transfer
    ∷ []

-- the row of a list that has the code
unfoldable pub find_in : List Row → ℕ → Option Row
find_in [] code = None
find_in (r ∷ rs) code = cond (eqb r.code code) (Some r) (find_in rs code)

-- the row of the table that has the code
unfoldable pub order_of : ℕ → Option Row
order_of code = find_in table code
