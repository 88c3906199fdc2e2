-- A run with its list of a unit that was started: the answer in one number, the list, and two numbers lent for the steps done and the items
-- listed.
use Rattle.std.specs.Prelude.{List, [], ◌∷◌, ℕ}
use Rattle.unit_head.specs.Head.{DisplayUnit}
use Rattle.console_run.specs.Pair.{RunValues, RunEnd, pair_run}
use Rattle.capi_packed.specs.Packed.{refused_number}
use Rattle.capi_started.specs.Started.{StartValues, StartEnd}

-- what the call answers and leaves
pub record RunCall : Type 0 where
  pub number : ℕ
  pub list : List ℕ
  pub counts : List ℕ

abbrev pub run_call : ℕ → List ℕ → List ℕ → RunCall
run_call n list c = record { number = n; list = list; counts = c }

-- a run: why it ended, and the steps done and the items listed in full; a refusal changes nothing that was lent
abbrev pub ran_number : RunValues → ℕ
ran_number (RunValues.ran steps why items) = why
ran_number (RunValues.refused n) = refused_number n

abbrev pub ran_counts : RunValues → List ℕ → List ℕ
ran_counts (RunValues.ran steps why items) c = steps ∷ items ∷ []
ran_counts (RunValues.refused n) c = c

abbrev pub ran_call : RunEnd → List ℕ → RunCall
ran_call e c = run_call (ran_number e.answer) e.list (ran_counts e.answer c)

-- by how the start was answered: a refused one does not run
abbrev pub run_ready : DisplayUnit → List ℕ → List ℕ → List ℕ → StartValues → RunCall
run_ready u sights list c StartValues.ready = ran_call (pair_run u sights list) c
run_ready u sights list c (StartValues.refused n) = run_call (refused_number n) list c

abbrev pub run_started : StartEnd → List ℕ → List ℕ → List ℕ → RunCall
run_started e sights list c = run_ready e.unit sights list c e.answer
