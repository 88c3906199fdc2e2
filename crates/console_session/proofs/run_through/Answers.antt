use Rattle.std.proofs.Common.{ℕ, List, ap, ◌∙◌}
use Rattle.text_put.proofs.Laws.{behind}
use Rattle.device_2250.specs.Device.{unit_of}
use Rattle.console_run.specs.Pair.{pair_run}
use Rattle.console_session.specs.Session.{run_said}
use Rattle.console_session.proofs.Laws.{speaks_as, spoken, run_end}
use Rattle.console_session.proofs.run_through.Goals as goal

pub returns : goal.returns
returns c =
    let put = behind _ _ _ _ _ _ _ _ (c.put_ran-middle.ensures.value, c.put_ran-middle.ensures.buffer_after)
    (c.put_items.ensures.value, c.put_items.ensures.buffer_after) in
    speaks_as
    (run_end _ c.run.new.out _ _ _ _ c.from-why.ensures.0
    ∙ ap run_said c.in_ok-ran.ensures
    ∙ ap (λ (sights : List ℕ). run_said (pair_run (unit_of c.args.device.now) sights c.args.list.now)) c.read_sights.ensures)
    (spoken _ _ _ _ _ _ put)
