-- The field of a location (C-13; 000 p.21, note 2, p.24, Table 4, and p.36).
use Rattle.std.specs.Prelude.{ℕ, Bool, cond, ◌||◌, List, eqb, None, Option, Some}
use Rattle.ground_orders.specs.declared.Row.{Row}
use Rattle.ground_orders.specs.Orders.{order_of}
use Rattle.ground_setup.specs.declared.Size.{Size}
use Rattle.ground_orders.specs.declared.Mode.{Mode}
use Rattle.ground_orders.specs.declared.Mode.TheVariants.{Basic, Large}
use Rattle.ground_orders.specs.declared.Follows.{Follows}
use Rattle.ground_orders.specs.declared.Follows.TheVariants.{Enter}
use Rattle.typing_signs.specs.Signs.{code_at, even_of, order_at}
use Rattle.typing_seek.specs.Seek.{order_behind}
use Rattle.typing_fields.specs.declared.Field.{Field}

-- Table 4 (000 p.24): 44 and 45 enter protected characters; 40, 41, 50, 51 and 52 unprotected ones
abbrev pub protected_by : ℕ → Bool
protected_by code = eqb code 0x44 || eqb code 0x45

-- the field behind an order, by the mode that the order enters: "The cursor must be inserted in a character data field only"
abbrev pub mode_field : Bool → Mode → Option Field
mode_field shut Basic = Some (record { mode = Basic; shut = shut })
mode_field shut Large = Some (record { mode = Large; shut = shut })
mode_field shut _ = None

abbrev pub follows_field : Bool → Follows → Option Field
follows_field shut (Enter m) = mode_field shut m
follows_field shut _ = None

abbrev pub found_field : Bool → Option Row → Option Field
found_field shut None = None
found_field shut (Some r) = follows_field shut r.follows

-- the field behind an order of this code
unfoldable pub code_field : ℕ → Option Field
code_field code = found_field (protected_by code) (order_of code)

-- the field behind an order that was looked for
abbrev pub field_by : List ℕ → Size → Option ℕ → Option Field
field_by words s None = None
field_by words s (Some a) = code_field (code_at words s a)

-- the field of a location: none where its own pair is an order, else that of the nearest order before it
unfoldable pub field_of : List ℕ → Size → ℕ → Option Field
field_of words s a = cond (order_at words s (even_of s a)) None (field_by words s (order_behind words s a))
