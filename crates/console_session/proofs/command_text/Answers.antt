use Rattle.std.proofs.Common.{◌/◌, length, arith}
use Rattle.device_2250.specs.Device.{unit_of}
use Rattle.console_session.proofs.Laws.{answers_as, command_as, part_length, part_zero}
use Rattle.console_session.proofs.command_text.Goals as goal

pub returns : goal.returns
returns c =
    let sent = part_length 20000 (length c.args.text.bytes.now / 2) (omega (arith, c.args.text.within)) in
    let room = part_zero 65535 c.args.count (omega arith) in
    answers_as c.args.lines.now c.args.at c.command_through.new.lines c.command_through.new.device c.command_through.result
    (command_as (unit_of c.args.device.now) c.args.code c.args.text.bytes.now sent room) c.command_through.ensures
