-- Several steps, one for each sight (01, "The pen"): "A run is given one sight per step".
use Rattle.std.specs.Prelude.{ℕ, suc, ◌≤◌, ◌≡◌, Bool, true, false, cond, List, [], ◌∷◌, ◌++◌, length, take}
use Rattle.ground_orders.specs.declared.Mode.{Mode}
use Rattle.ground_orders.specs.declared.Mode.TheVariants as mode
use Rattle.unit_items.specs.declared.Item.{Item}
use Rattle.unit_cursor.specs.Cursor.{Buffer}
use Rattle.unit_head.specs.declared.State.{State}
use Rattle.unit_step.specs.declared.Stop.{Stop}
use Rattle.unit_step.specs.declared.Stop.TheVariants as stop
use Rattle.unit_step.specs.declared.Stepped.{Stepped}
use Rattle.unit_step.specs.declared.Stepped.TheVariants as stepped
use Rattle.unit_step.specs.Step.{step_from, items_drawn}

-- where a step goes on, what is made of the state behind it
abbrev pub onward : Stepped → (State → Stepped) → Stepped
onward (stepped.Goes s) more = more s
onward (stepped.Stops s e) more = stepped.Stops s e

-- THE STEPS FROM A STATE: the state behind them all, or the first stop
unfoldable pub steps_from : List ℕ → List ℕ → State → Stepped
steps_from words [] s = stepped.Goes s
steps_from words (g ∷ gs) s = onward (step_from words s g) (λ s'. steps_from words gs s')

-- "Steps ended by 6 and 7 count; those ended by 1 to 5, 8 .. are not done"
abbrev pub steps_at : Stop → ℕ
steps_at (stop.Fault f) = 0
steps_at stop.EndOrder = 1
steps_at stop.Detect = 1
steps_at stop.DataCheck = 0

abbrev pub count_behind : Stepped → (State → ℕ) → ℕ
count_behind (stepped.Goes s) more = suc (more s)
count_behind (stepped.Stops s e) more = steps_at e

-- "the steps done"
unfoldable pub steps_done : List ℕ → List ℕ → State → ℕ
steps_done words [] s = 0
steps_done words (g ∷ gs) s = count_behind (step_from words s g) (λ s'. steps_done words gs s')

-- what there is behind a step that goes on, and nothing behind one that stops
abbrev pub beyond : {A : Type 0} → A → (State → A) → Stepped → A
beyond none more (stepped.Goes s) = more s
beyond none more (stepped.Stops s e) = none

-- THE DRAWN LIST of the steps, in order
unfoldable pub items_run : Buffer → List ℕ → State → List Item
items_run b [] s = []
items_run b (g ∷ gs) s = items_drawn b s g ++ beyond [] (λ s'. items_run b gs s') (step_from b.words s g)

-- THE FIRST STEPS GO ON: k of them, from a state to another
pub record GoesOver (words sights : List ℕ) (s : State) (k : ℕ) (s' : State) : Type 0 where
  pub within : k ≤ length sights
  pub goes : steps_from words (take k sights) s ≡ stepped.Goes s'

-- in idle mode nothing is drawn
abbrev pub is_idle : Mode → Bool
is_idle mode.Idle = true
is_idle m = false

-- how many of the sights are used by steps from idle mode, up to the first from another
unfoldable pub idle_steps : List ℕ → List ℕ → State → ℕ
idle_steps words [] s = 0
idle_steps words (g ∷ gs) s = cond (is_idle s.mode) (suc (beyond 0 (λ s'. idle_steps words gs s') (step_from words s g))) 0
