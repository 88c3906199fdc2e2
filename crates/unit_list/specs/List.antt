-- Listing (02, C-21: "one lists what a given step draws").
use Rattle.std.specs.Prelude.{ℕ, cond, List, [], leb, length, Err, None, Ok, Option, Result, Some}
use Rattle.ground_refusals.specs.Refusals.{refusal_number}
use Rattle.ground_refusals.specs.declared.Refusal.{Refusal}
use Rattle.unit_items.specs.Items.{listing, listed}
use Rattle.unit_items.specs.declared.Item.{Item}
use Rattle.unit_head.specs.Head.{DisplayUnit, buffer_of}
use Rattle.unit_motion.specs.declared.Motion.{Motion}
use Rattle.unit_motion.specs.declared.Motion.TheVariants as motion
use Rattle.unit_motion.specs.declared.Moved.{Moved}
use Rattle.unit_motion.specs.declared.Moved.TheVariants as moved
use Rattle.unit_step.specs.Step.{look_at, motion_at, items_drawn}
use Rattle.unit_list.specs.declared.Moves.{Moves}
use Rattle.unit_list.specs.declared.Moves.TheVariants as moves

-- what the next step of a unit draws with a sight; a unit that does not run has no next step
unfoldable pub next_items : DisplayUnit → ℕ → List Item
next_items u sight = cond u.head.state.running (items_drawn (buffer_of u) u.head.state sight) []

-- the answer: how many items the list then holds, or that it is full, or the number of the refusal
pub data ListValues : Type 0 where
  holds : ℕ → ListValues
  full : ListValues
  refused : ℕ → ListValues

abbrev pub listing_values : Option ℕ → ListValues
listing_values (Some n) = ListValues.holds n
listing_values None = ListValues.full

abbrev pub list_values : Result (Option ℕ) Refusal → ListValues
list_values (Ok l) = listing_values l
list_values (Err r) = ListValues.refused (refusal_number r)

-- what listing leaves: the answer, and the list lent
pub record ListEnd : Type 0 where
  pub answer : ListValues
  pub list : List ℕ

abbrev pub list_ended : Result (Option ℕ) Refusal → List ℕ → ListEnd
list_ended r list = record { answer = list_values r; list = list }

-- LISTING what the next step draws, behind the items that the list holds; "8 a sight above 2"
unfoldable pub unit_list : DisplayUnit → ℕ → ℕ → List ℕ → ListEnd
unit_list u sight held list =
    cond (leb sight 2)
    (record { answer = listing_values (listing (length list) held (next_items u sight)); list = listed list held (next_items u sight) })
    (record { answer = ListValues.refused 8; list = list })

-- what a motion moves the beam by
abbrev pub moves_to : Moved → Moves
moves_to moved.Absolute = moves.Absolute
moves_to (moved.Increment off) = moves.Increment

abbrev pub moves_by : Motion → Moves
moves_by motion.Still = moves.Nothing
moves_by (motion.To m t to) = moves_to m
moves_by (motion.Codes size a b) = moves.Codes

-- WHAT THE NEXT STEP MOVES, which the list does not tell: an increment of nothing may draw as little as an order
unfoldable pub unit_moves : DisplayUnit → Moves
unit_moves u = cond u.head.state.running (moves_by (motion_at (look_at u.words u.head.state) u.head.state)) moves.Nothing
