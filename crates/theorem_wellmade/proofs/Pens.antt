-- The pen stays well made through orders, the timer, the switch, detects and transfers. Assumes nothing.
use Prim.Native.Nat.{ℕ}
use native.Mathlib.Omega.{arith}
use mathlib.Core.Path.{◌≡◌, refl}
use mathlib.Core.Bool.{Bool, true, false, not, ◌&&◌, ◌||◌, beq}
use Rattle.ground_orders.specs.declared.PenMode.{PenMode}
use Rattle.ground_orders.specs.declared.PenMode.TheVariants.{Normal, Disabled, NoSwitch}
use Rattle.ground_words.proofs.Laws.{either_way}
use Rattle.unit_pen.specs.declared.Pen.{Pen}
use Rattle.unit_pen.specs.Pen.{fresh, ordered, timed, switched, spent_pen, seen_pen, detected_in, detected, transferred_in, transferred}
use Rattle.theorem_wellmade.specs.WellMade.{PenMade}

never : {A : Type 0} → false ≡ true → A
never e = let z : ◌≡◌ {A = ℕ} 0 1 = cc in absurd (omega arith)

pub fresh_pen : PenMade fresh
fresh_pen = record { closed = λ e. never e; unspent = λ e. never e }

pub ordered_made : (p : Pen) (m : PenMode) → PenMade p → PenMade (ordered p m)
unfolding ordered
ordered_made p Normal h = record { closed = h.closed; unspent = h.unspent }
ordered_made p Disabled h = record { closed = h.closed; unspent = h.unspent }
ordered_made p NoSwitch h = record { closed = h.closed; unspent = h.unspent }

closed_by : (armed closed spent : Bool) → (armed ≡ true → closed ≡ true) → (armed || (closed && not spent)) ≡ true → closed ≡ true
closed_by true closed spent h e = h refl
closed_by false true spent h e = refl
closed_by false false spent h e = never e

unspent_by : (armed closed spent : Bool) → (armed ≡ true → spent ≡ false) → (armed || (closed && not spent)) ≡ true → spent ≡ false
unspent_by true closed spent h e = h refl
unspent_by false true true h e = never e
unspent_by false true false h e = refl
unspent_by false false spent h e = never e

pub timed_made : (p : Pen) → PenMade p → PenMade (timed p)
unfolding timed
timed_made p h = record { closed = closed_by p.armed p.closed p.spent h.closed; unspent = unspent_by p.armed p.closed p.spent h.unspent }

pub switched_made : (p : Pen) (closed : Bool) → PenMade p → PenMade (switched p closed)
unfolding switched
switched_made p closed h =
    either_way PenMade (beq p.closed closed) h (record { closed = λ e. never e; unspent = λ e. never e })

spent_made : (p : Pen) → PenMade (spent_pen p)
unfolding spent_pen
spent_made p = record { closed = λ e. never e; unspent = λ e. never e }

seen_made : (p : Pen) → PenMade p → PenMade (seen_pen p)
unfolding seen_pen
seen_made p h = record { closed = h.closed; unspent = h.unspent }

detected_by : (p : Pen) (m : PenMode) → PenMade p → PenMade (detected_in p m)
detected_by p Normal h = spent_made p
detected_by p Disabled h = h
detected_by p NoSwitch h = seen_made p h

pub detected_made : (p : Pen) → PenMade p → PenMade (detected p)
unfolding detected
detected_made p h = detected_by p p.mode h

transferred_by : (p : Pen) (m : PenMode) → PenMade p → PenMade (transferred_in p m)
transferred_by p Normal h = spent_made p
transferred_by p Disabled h = h
transferred_by p NoSwitch h = h

pub transferred_made : (p : Pen) → PenMade p → PenMade (transferred p)
unfolding transferred
transferred_made p h = transferred_by p p.mode h
