-- A stretch of plain data: steps that go on, each from the mode that the state is in.
use Rattle.std.specs.Prelude.{ℕ, ◌+◌, ◌≡◌, true, List, drop}
use Rattle.unit_head.specs.declared.State.{State}
use Rattle.unit_step.specs.Run.{GoesOver, is_idle, idle_steps}
use Rattle.unit_stretch.specs.declared.Stretch.{Stretch}

-- as many steps go on, to that state; in idle mode all of them are steps from idle mode, and it is the mode still
pub record Reaches (words sights : List ℕ) (s : State) (r : Stretch) : Type 0 where
  pub gone : GoesOver words sights s r.steps r.state
  pub idle : is_idle s.mode ≡ true → idle_steps words sights s ≡ r.steps + idle_steps words (drop r.steps sights) r.state
  pub stays : r.state.mode ≡ s.mode
