-- Places and pens by their numbers: all are below the bound of jump, and the same number is the same place with the same pen.
-- Assumes nothing.
use Prim.Native.Nat.{ℕ, ◌+◌, ◌*◌, ◌/◌, ◌%◌, ◌<◌}
use native.Mathlib.Omega.{arith}
use native.Mathlib.Nat.{mul_comm}
use mathlib.Core.Path.{◌≡◌, refl, sym, ap, subst, ◌∙◌}
use mathlib.Core.Bool.{Bool, true, false}
use lib.Arith.{digits_lt, digits_div, digits_mod}
use Rattle.ground_setup.specs.declared.Size.{Size}
use Rattle.ground_setup.specs.declared.Setup.{Setup}
use Rattle.ground_orders.specs.declared.PenMode.{PenMode}
use Rattle.ground_orders.specs.declared.PenMode.TheVariants.{Normal, Disabled, NoSwitch}
use Rattle.unit_pen.specs.declared.Pen.{Pen}
use Rattle.validator_walks.specs.declared.Place.{Place}
use Rattle.validator_walks.specs.Places.{place, half_of, places_of, number_of, place_of}
use Rattle.validator_walks.proofs.Numbering.{number_lt, place_of_number}
use Rattle.unit_head.specs.declared.State.{State}
use Rattle.typing_jump.specs.Jump.{steps_in}
use Rattle.theorem_jump.specs.Jumps.{Same, pen_mode_number, mark_number, pen_number, state_number}
use Rattle.theorem_jump.proofs.Hops.{Placed}

mode_lt : (m : PenMode) → pen_mode_number m < 3
mode_lt Normal = omega arith
mode_lt Disabled = omega arith
mode_lt NoSwitch = omega arith

mode_alike : (m n : PenMode) → pen_mode_number m ≡ pen_mode_number n → m ≡ n
mode_alike Normal Normal e = refl
mode_alike Normal Disabled e = absurd (omega arith)
mode_alike Normal NoSwitch e = absurd (omega arith)
mode_alike Disabled Normal e = absurd (omega arith)
mode_alike Disabled Disabled e = refl
mode_alike Disabled NoSwitch e = absurd (omega arith)
mode_alike NoSwitch Normal e = absurd (omega arith)
mode_alike NoSwitch Disabled e = absurd (omega arith)
mode_alike NoSwitch NoSwitch e = refl

mark_lt : (b : Bool) → mark_number b < 2
mark_lt true = omega arith
mark_lt false = omega arith

mark_alike : (a b : Bool) → mark_number a ≡ mark_number b → a ≡ b
mark_alike true true e = refl
mark_alike true false e = absurd (omega arith)
mark_alike false true e = absurd (omega arith)
mark_alike false false e = refl

pen_lt : (p : Pen) → pen_number p < 48
pen_lt p = omega (arith, mode_lt p.mode, mark_lt p.closed, mark_lt p.spent, mark_lt p.armed, mark_lt p.seen)

-- the last of a number's marks, and the number before it
last_mark : (x y : ℕ) (a b : Bool) → 2 * x + mark_number a ≡ 2 * y + mark_number b → (a ≡ b) × (x ≡ y)
last_mark x y a b e =
    let f : mark_number a ≡ mark_number b = omega (arith, mark_lt a, mark_lt b) in
    (mark_alike a b f, omega arith)

pen_alike : (p q : Pen) → pen_number p ≡ pen_number q → p ≡ q
pen_alike p q e =
    let seen = last_mark _ _ p.seen q.seen e in
    let armed = last_mark _ _ p.armed q.armed seen.1 in
    let spent = last_mark _ _ p.spent q.spent armed.1 in
    let closed = last_mark _ _ p.closed q.closed spent.1 in
    rw (mode_alike p.mode q.mode closed.1, closed.0, spent.0, armed.0, seen.0)

-- as many steps as places and pens
steps_in_lem : (size : Size) → places_of size * 48 ≡ steps_in size
steps_in_lem size = ap (λ (n : ℕ). n * 48) (mul_comm 7 (half_of size))

-- the number of every state at a place of the buffer is below the bound
pub state_lt : (su : Setup) (s : State) → Placed su s → state_number s < steps_in su.size
state_lt su s h =
    subst (λ (n : ℕ). state_number s < n) (steps_in_lem su.size)
    (rw h.same (digits_lt (number_lt su.size (place s.address s.mode) h.proper) (pen_lt s.pen)))

-- states of one number are at the same place with the same pen
pub state_alike : (su : Setup) (s t : State) → Placed su s → Placed su t → state_number s ≡ state_number t → Same s t
state_alike su s t h k e =
    let size : Size = su.size in
    let p : Place = place s.address s.mode in
    let q : Place = place t.address t.mode in
    let f : number_of size p * 48 + pen_number s.pen ≡ number_of size q * 48 + pen_number t.pen =
    ap (λ (z : Setup). number_of z.size p * 48 + pen_number s.pen) (sym h.same) ∙ e
    ∙ ap (λ (z : Setup). number_of z.size q * 48 + pen_number t.pen) k.same
    in
    let n : number_of size p ≡ number_of size q =
    sym (digits_div (number_of size p) (pen_lt s.pen)) ∙ ap (λ (x : ℕ). x / 48) f ∙ digits_div (number_of size q) (pen_lt t.pen)
    in
    let m : pen_number s.pen ≡ pen_number t.pen =
    sym (digits_mod (number_of size p) (pen_lt s.pen)) ∙ ap (λ (x : ℕ). x % 48) f ∙ digits_mod (number_of size q) (pen_lt t.pen)
    in
    let z : p ≡ q = sym (place_of_number size p h.proper) ∙ ap (place_of size) n ∙ place_of_number size q k.proper in
    record {
      setup = h.same ∙ sym k.same;
      address = ap (λ (x : Place). x.at) z;
      mode = ap (λ (x : Place). x.mode) z;
      pen = pen_alike s.pen t.pen m;
    }
