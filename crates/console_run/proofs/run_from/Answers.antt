use Rattle.std.proofs.Common.{◌-◌, length, drop, length-drop, arith}
use lib.Seq.{take_all}
use Rattle.console_run.proofs.Turning.{all_drop, ran_all}
use Rattle.console_run.proofs.run_from.Goals as goal

pub take_turn-turn-requires : goal.take_turn-turn-requires
take_turn-turn-requires c =
    let sights = c.args.sights.now in
    let whole = take_all (length sights - c.loop-i.i) (drop c.loop-i.i sights) (omega (arith, length-drop c.loop-i.i sights)) in (
      c.loop-i.invariant.0.running,
      rw whole (all_drop c.loop-i.i sights c.requires.1),
      rw whole (omega (arith, length-drop c.loop-i.i sights, c.loop-i-test.true)),
    )

pub returns : goal.returns
returns c =
    ran_all c.args.words.now c.args.sights.now c.args.head.now c.args.out.now c.loop-i.i c.loop-i.items c.loop-i.head c.loop-i.out c.loop-i.invariant.0 (omega arith)
