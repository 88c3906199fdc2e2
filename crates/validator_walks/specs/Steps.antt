-- What one step from a place leads to (01, "One step of regeneration" and "The validator").
use Rattle.std.specs.Prelude.{◌≡◌, ◌⊎◌, List, ℕ}
use Rattle.ground_setup.specs.declared.Size.{Size}
use Rattle.ground_setup.specs.declared.Setup.{Setup}
use Rattle.ground_orders.specs.declared.Mode.{Mode}
use Rattle.ground_orders.specs.declared.Mode.TheVariants.{Idle}
use Rattle.ground_groups.specs.Groups.{image_group}
use Rattle.ground_look.specs.Look.{look_of}
use Rattle.ground_look.specs.declared.Fault.{Fault}
use Rattle.ground_look.specs.declared.Look.{Look}
use Rattle.ground_look.specs.declared.Look.TheVariants as look
use Rattle.validator_walks.specs.declared.Place.{Place}
use Rattle.validator_walks.specs.declared.Way.{Way}
use Rattle.validator_walks.specs.declared.Way.TheVariants.{Faulty, Stops, To, Either}
use Rattle.validator_walks.specs.Places.{place, number_of, place_of}

-- what a step may lead to, for faults and places of any kind: a fault, nothing more, one place, or either of two
pub data Step (F X : Type 0) : Type 0 where
  faulty : F → Step F X
  stops : Step F X
  to : X → Step F X
  either : X → X → Step F X

-- the places that a step may go on to
abbrev pub Leads : {F X : Type 0} → Step F X → X → Type 0
Leads (Step.faulty f) q = ⊥
Leads Step.stops q = ⊥
Leads (Step.to a) q = q ≡ a
Leads (Step.either a b) q = (q ≡ a) ⊎ (q ≡ b)

-- the step of one look in mode m. Transfers, no-ops, control and pen orders go on in idle mode, mode orders in their mode, data in
-- the mode they are met in. "Here Transfer On No Detect may go either way at any time." End Order Sequence stops, and so would bad
-- parity, which no image has.
abbrev pub step_by : Mode → Look → Step Fault Place
step_by m (look.Fault f) = Step.faulty f
step_by m (look.Check a) = Step.stops
step_by m (look.Enter n a) = Step.to (place a n)
step_by m (look.Pass a) = Step.to (place a Idle)
step_by m (look.Timer a) = Step.to (place a Idle)
step_by m (look.SetPen n a) = Step.to (place a Idle)
step_by m (look.End a) = Step.stops
step_by m (look.Jump t) = Step.to (place t Idle)
step_by m (look.Either t a) = Step.either (place t Idle) (place a Idle)
step_by m (look.Two b c a) = Step.to (place a m)
step_by m (look.Four b c d e a) = Step.to (place a m)

-- the step from a place of an image
unfoldable pub step_of : List ℕ → Setup → Place → Step Fault Place
step_of image su p = step_by p.mode (look_of (image_group image su) su p.at p.mode)

-- the same with each place as its number
abbrev pub way_by : Size → Step Fault Place → Way
way_by size (Step.faulty f) = Faulty f
way_by size Step.stops = Stops
way_by size (Step.to a) = To (number_of size a)
way_by size (Step.either a b) = Either (number_of size a) (number_of size b)

unfoldable pub way_of : List ℕ → Setup → ℕ → Way
way_of image su n = way_by su.size (step_of image su (place_of su.size n))

-- a way as a step
abbrev pub as_step : Way → Step Fault ℕ
as_step (Faulty f) = Step.faulty f
as_step Stops = Step.stops
as_step (To a) = Step.to a
as_step (Either a b) = Step.either a b
