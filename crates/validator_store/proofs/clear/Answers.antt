-- What is filled is as long as the bytes before it were, and zero.
use Rattle.std.proofs.Common.{rules, ◌≡◌, min, length, replicate}
use Rattle.validator_store.proofs.Bits.{cleared_is}
use Rattle.validator_store.proofs.clear.Goals as goal

pub returns : goal.returns
returns c =
    let s = c.args.store.now in
    let filled : c.fill.new.self ≡ replicate (min c.args.n (length s)) 0 = search rules in
    rw (filled, c.min-end.ensures) (cleared_is s c.args.n)
