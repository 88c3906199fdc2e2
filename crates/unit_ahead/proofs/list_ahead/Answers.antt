use mathlib.Core.Path.{refl, sym, subst}
use mathlib.Core.Bool.{true, false}
use mathlib.Core.Logic.{⊎_elim}
use Rattle.ground_orders.specs.declared.Mode.{Mode}
use Rattle.unit_cursor.specs.Cursor.{buffer}
use Rattle.unit_ahead.specs.Ahead.{Traces}
use Rattle.unit_ahead.proofs.Laws.{on_none, on_done, points_trace, vectors_trace, steps_point, steps_trace}
use Rattle.unit_ahead.proofs.list_ahead.Goals as goal

pub list_traces-requires : goal.list_traces-requires
list_traces-requires c =
    ⊎_elim (λ e. subst (λ (m : Mode). Traces m false) (sym e) points_trace) (λ e. subst (λ (m : Mode). Traces m false) (sym e) steps_point) c.in-Point.is

pub list_traces-requires-in-Vector : goal.list_traces-requires-in-Vector
list_traces-requires-in-Vector c =
    ⊎_elim (λ e. subst (λ (m : Mode). Traces m true) (sym e) vectors_trace) (λ e. subst (λ (m : Mode). Traces m true) (sym e) steps_trace) c.in-Vector.is

pub returns-in-Idle : goal.returns-in-Idle
returns-in-Idle c =
    on_done _ _ _ _ _ _ _ _ _ (on_none (buffer c.args.words.now c.args.cursor) c.args.sights.now c.args.state c.args.held c.args.out.now) _ refl refl
