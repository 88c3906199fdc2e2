-- A command that is not done while the buffer runs has met a stopped unit. Assumes nothing.
use mathlib.Core.Path.{◌≡◌, refl, sym, ◌∙◌}
use mathlib.Core.Bool.{Bool, true, false, false≢true}
use Rattle.unit_commands.specs.Commands.{allowed}

pub stopped_by : (whileRunning running : Bool) → whileRunning ≡ false → allowed whileRunning running ≡ true → running ≡ false
stopped_by w true e a = absurd (false≢true (sym e ∙ a))
stopped_by w false e a = refl
