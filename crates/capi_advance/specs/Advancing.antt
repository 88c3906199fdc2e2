-- Advancing of a unit that was started: the answer in one number, and four numbers lent for the steps done and the address, X and Y behind them.
use Rattle.std.specs.Prelude.{List, [], ◌∷◌, ℕ}
use Rattle.unit_head.specs.Head.{DisplayUnit}
use Rattle.unit_head.specs.declared.State.{State}
use Rattle.unit_advance.specs.Advance.{AdvanceValues, AdvanceEnd, unit_advance}
use Rattle.capi_packed.specs.Packed.{refused_number}
use Rattle.capi_started.specs.Started.{StartValues, StartEnd}

-- what the call answers and leaves
pub record AdvanceCall : Type 0 where
  pub number : ℕ
  pub place : List ℕ

abbrev pub advance_call : ℕ → List ℕ → AdvanceCall
advance_call n p = record { number = n; place = p }

-- why it ended, and where it has come to; a refusal changes nothing that was lent
abbrev pub advanced_number : AdvanceValues → ℕ
advanced_number (AdvanceValues.advanced steps why) = why
advanced_number (AdvanceValues.refused n) = refused_number n

abbrev pub advanced_place : State → AdvanceValues → List ℕ → List ℕ
advanced_place s (AdvanceValues.advanced steps why) p = steps ∷ s.address ∷ s.beam.x ∷ s.beam.y ∷ []
advanced_place s (AdvanceValues.refused n) p = p

abbrev pub advanced_call : AdvanceEnd → List ℕ → AdvanceCall
advanced_call e p = advance_call (advanced_number e.answer) (advanced_place e.unit.head.state e.answer p)

-- by how the start was answered: a refused one does not advance
abbrev pub advance_ready : DisplayUnit → List ℕ → List ℕ → StartValues → AdvanceCall
advance_ready u sights p StartValues.ready = advanced_call (unit_advance u sights) p
advance_ready u sights p (StartValues.refused n) = advance_call (refused_number n) p

abbrev pub advance_started : StartEnd → List ℕ → List ℕ → AdvanceCall
advance_started e sights p = advance_ready e.unit sights p e.answer
