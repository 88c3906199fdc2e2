-- That the bound on jump's steps loses nothing (C-13, jump): "no such order before a place with the same pen comes again" is the same as
-- none in as many steps as there are places and pens.
use Rattle.std.specs.Prelude.{ℕ, ◌+◌, ◌*◌, ◌≡◌, Bool, true, false, List, Some}
use Rattle.ground_orders.specs.declared.Mode.{Mode}
use Rattle.ground_orders.specs.declared.PenMode.{PenMode}
use Rattle.ground_orders.specs.declared.PenMode.TheVariants.{Normal, Disabled, NoSwitch}
use Rattle.unit_pen.specs.declared.Pen.{Pen}
use Rattle.validator_walks.specs.Places.{place, number_of}
use Rattle.unit_head.specs.declared.State.{State}
use Rattle.unit_step.specs.Step.{state_at}
use Rattle.typing_signs.specs.Signs.{even_of}
use Rattle.typing_jump.specs.Jump.{jump_from, jump_of}

-- two states at the same place with the same pen
pub record Same (s t : State) : Type 0 where
  pub setup : s.setup ≡ t.setup
  pub address : s.address ≡ t.address
  pub mode : s.mode ≡ t.mode
  pub pen : s.pen ≡ t.pen

-- "a step without sight goes by place and pen alone": from such states a search of n steps finds the same
abbrev pub ByPlaceAndPen : Type 0
ByPlaceAndPen = (words : List ℕ) (s t : State) → Same s t → (n : ℕ) → jump_from words n s ≡ jump_from words n t

-- the pens by their numbers: three modes, and four marks that are set or not
abbrev pub pen_mode_number : PenMode → ℕ
pen_mode_number Normal = 0
pen_mode_number Disabled = 1
pen_mode_number NoSwitch = 2

abbrev pub mark_number : Bool → ℕ
mark_number false = 0
mark_number true = 1

abbrev pub pen_number : Pen → ℕ
pen_number p =
    2 * (2 * (2 * (2 * pen_mode_number p.mode + mark_number p.closed) + mark_number p.spent) + mark_number p.armed)
    + mark_number p.seen

-- places and pens by their numbers
abbrev pub state_number : State → ℕ
state_number s = number_of s.setup.size (place s.address s.mode) * 48 + pen_number s.pen

-- where a search from the cursor's place that is followed for any number of steps finds unprotected characters, jump finds them
abbrev pub LosesNothing : Type 0
LosesNothing =
    (words : List ℕ) (s : State) (a : ℕ) (m : Mode) (k to : ℕ) → jump_from words k (state_at s (even_of s.setup.size a) m) ≡ Some to → jump_of words s a m ≡ Some to
