-- What 000 p.28 and p.29 say of a closure, as laws of the definitions.
use Prim.Native.Nat.{ℕ}
use mathlib.Core.Path.{◌≡◌, refl}
use mathlib.Core.Bool.{Bool, true, false, and-false}
use Rattle.ground_orders.specs.declared.PenMode.{PenMode}
use Rattle.ground_orders.specs.declared.PenMode.TheVariants.{Normal, Disabled, NoSwitch}
use Rattle.unit_pen.specs.Pen.{pen_of, ordered, timed, switched, detects, seen_of, spent_pen, seen_pen, detected, transfers, transferred}

module _ (closed spent armed seen : Bool) where
  -- "Only one normal light pen detect can occur for each switch closure", however often the timer is started
  pub detected_once : detects (timed (detected (pen_of Normal closed spent armed seen))) ≡ false
  unfolding detects timed detected spent_pen
  detected_once = and-false closed

  -- a no-detect transfer in normal mode spends the closure too
  pub transferred_once : transfers (timed (transferred (pen_of Normal closed spent armed seen))) ≡ false
  unfolding transfers timed transferred spent_pen
  transferred_once = and-false closed

  -- in no-switch mode detects are unlimited, and the first inhibits the transfers that follow
  pub seen_again : detects (detected (pen_of NoSwitch closed spent armed seen)) ≡ true
  unfolding detects detected seen_pen
  seen_again = refl

  pub seen_stays : transfers (detected (pen_of NoSwitch closed spent armed seen)) ≡ false
  unfolding transfers detected seen_pen
  seen_stays = refl

  -- disabled, the pen neither detects nor transfers
  pub disabled_blind : detects (pen_of Disabled closed spent armed seen) ≡ false
  unfolding detects
  disabled_blind = refl

  pub disabled_stays : transfers (pen_of Disabled closed spent armed seen) ≡ false
  unfolding transfers
  disabled_stays = refl

  -- "in no-switch mode with no detect since that order", however the pen was before
  pub order_forgets : (mode : PenMode) → transfers (ordered (pen_of mode closed spent armed seen) NoSwitch) ≡ true
  unfolding transfers ordered
  order_forgets mode = refl

  -- the orders leave the arming alone
  pub order_keeps_arming : detects (ordered (ordered (pen_of Normal closed spent armed seen) Disabled) Normal) ≡ armed
  unfolding detects ordered
  order_keeps_arming = refl

  -- "Start Regeneration Timer sets normal"
  pub timer_normal : (mode : PenMode) → (timed (pen_of mode closed spent armed seen)).mode ≡ Normal
  unfolding timed
  timer_normal mode = refl

  -- arming lasts "until the switch opens"
  pub opened_blind : detects (switched (pen_of Normal true spent armed seen) false) ≡ false
  unfolding detects switched
  opened_blind = refl

  -- in no-switch mode transfers go "in unlimited quantities"
  pub no_switch_unspent : transferred (pen_of NoSwitch closed spent armed seen) ≡ pen_of NoSwitch closed spent armed seen
  unfolding transferred
  no_switch_unspent = refl

  -- a pen that detects sees the sight as it is
  pub sight_kept : (sight : ℕ) → seen_of (pen_of NoSwitch closed spent armed seen) sight ≡ sight
  unfolding seen_of detects
  sight_kept sight = refl

-- "a repeat changes nothing": a switch moved to where it is
pub repeated : (mode : PenMode) (closed spent armed seen : Bool) → switched (pen_of mode closed spent armed seen) closed ≡ pen_of mode closed spent armed seen
unfolding switched
repeated mode true spent armed seen = refl
repeated mode false spent armed seen = refl
