-- The search of the jump key (C-13; 001 3-17 and Figure 4-11; 000 p.21, 32 and 35): regeneration is followed from the cursor's
-- place to the next unprotected characters.
use Rattle.std.specs.Prelude.{ℕ, zero, suc, ◌*◌, ◌/◌, Bool, false, cond, not, ◌&&◌, List, None, Option, Some}
use Rattle.std.specs.declared.ops.ControlFlow.{ControlFlow}
use Rattle.std.specs.declared.ops.ControlFlow.TheVariants.{Break, Continue}
use Rattle.ground_setup.specs.Setup.{size_of, wrap_of}
use Rattle.ground_setup.specs.declared.Size.{Size}
use Rattle.ground_orders.specs.declared.Mode.{Mode}
use Rattle.ground_look.specs.declared.Look.{Look}
use Rattle.ground_look.specs.declared.Look.TheVariants.{Enter}
use Rattle.unit_head.specs.declared.State.{State}
use Rattle.unit_step.specs.Step.{look_at, state_at, step_from}
use Rattle.unit_step.specs.declared.Stepped.{Stepped}
use Rattle.unit_step.specs.declared.Stepped.TheVariants as stepped
use Rattle.typing_signs.specs.Signs.{code_at, even_of, order_at}
use Rattle.typing_fields.specs.Fields.{code_field}
use Rattle.typing_fields.specs.declared.Field.{Field}

-- whether characters stand in a field and are not protected
abbrev pub open_in : Option Field → Bool
open_in None = false
open_in (Some f) = not f.shut

-- where a look's order takes the cursor: "the first location in the next unprotected character area" (001 4-7), where no order stands
abbrev pub landing_by : List ℕ → State → Look → Option ℕ
landing_by words s (Enter m next) =
    cond (open_in (code_field (code_at words s.setup.size s.address)) && not (order_at words s.setup.size next))
    (Some (wrap_of s.setup.size next)) None
landing_by words s _ = None

-- a step of the search: it ends where the cursor lands, goes on where the step goes on, and ends with nothing where it stops
abbrev pub stepped_by : Stepped → ControlFlow (Option ℕ) State
stepped_by (stepped.Goes s) = Continue s
stepped_by (stepped.Stops s e) = Break None

abbrev pub hop_by : Stepped → Option ℕ → ControlFlow (Option ℕ) State
hop_by next (Some a) = Break (Some a)
hop_by next None = stepped_by next

-- "with the device's own step and pen and no sight"
unfoldable pub hop_of : List ℕ → State → ControlFlow (Option ℕ) State
hop_of words s = hop_by (step_from words s 0) (landing_by words s (look_at words s))

abbrev pub jump_by : (State → Option ℕ) → ControlFlow (Option ℕ) State → Option ℕ
jump_by more (Break p) = p
jump_by more (Continue s) = more s

-- a search of at most so many steps
unfoldable pub jump_from : List ℕ → ℕ → State → Option ℕ
jump_from words zero s = None
jump_from words (suc n) s = jump_by (λ t. jump_from words n t) (hop_of words s)

-- how many steps are followed: as many as there are places (half the size by 7 modes) and pens (3 modes by 4 marks that are set or
-- not). A step without sight goes by place and pen alone, so that after these the search has come to a place with the same pen again,
-- and what was not met before that is never met
abbrev pub steps_in : Size → ℕ
steps_in s = size_of s / 2 * 7 * 48

-- where jump takes a cursor at A: from its place, in its field's mode
unfoldable pub jump_of : List ℕ → State → ℕ → Mode → Option ℕ
jump_of words s a m = jump_from words (steps_in s.setup.size) (state_at s (even_of s.setup.size a) m)
