use Rattle.std.proofs.Common.{◌*◌, length, arith}
use Rattle.device_2250.specs.Device.{unit_of}
use Rattle.console_session.proofs.Laws.{answers_as, run_as, part_length, part_zero}
use Rattle.console_session.proofs.run_text.Goals as goal

pub returns : goal.returns
returns c =
    let steps = part_length 40000 (length c.args.text.bytes.now) (omega (arith, c.args.text.within)) in
    let list = part_zero 32768 (8 * c.args.room) (omega arith) in
    answers_as c.args.lines.now c.args.at c.run_through.new.lines c.run_through.new.device c.run_through.result
    (run_as (unit_of c.args.device.now) c.args.text.bytes.now steps list) c.run_through.ensures
