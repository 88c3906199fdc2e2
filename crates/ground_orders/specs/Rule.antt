-- The table's rule, "codes differ, none is 2A" (01, "How to write each place"): one test, computed over all rows.
use Rattle.std.specs.Prelude.{Bool, true, cond, not, ◌&&◌, List, [], ◌∷◌, ℕ, T, eqb, leb}
use Rattle.ground_orders.specs.Orders.{table}
use Rattle.ground_orders.specs.declared.Row.{Row}

-- no row has the code
abbrev pub absent : ℕ → List Row → Bool
absent code [] = true
absent code (r ∷ rs) = not (eqb r.code code) && absent code rs

-- no two rows have one code
abbrev pub differ : List Row → Bool
differ [] = true
differ (r ∷ rs) = absent r.code rs && differ rs

-- the rule, tested once over all rows
pub rule : T (differ table && absent 0x2A table)
unfolding table
rule = tt

-- the no-op of four bytes and the transfers, whose codes are C0 and more, have four bytes, all others two (000 p.24, Table 4)
abbrev pub measured : List Row → Bool
measured [] = true
measured (r ∷ rs) = eqb r.length (cond (leb 0xC0 r.code) 4 2) && measured rs

pub lengths : T (measured table)
unfolding table
lengths = tt
