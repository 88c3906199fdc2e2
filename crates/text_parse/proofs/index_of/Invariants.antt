use Rattle.std.proofs.Common.{◌≡◌, ◌+◌, drop}
use Rattle.text_parse.specs.Index.{index_of}
use Rattle.text_parse.proofs.index_of.Given as goal

abbrev pub invariant-loop-i : goal.invariant-loop-i
invariant-loop-i l = index_of l.byte l.text ≡ l.i + index_of l.byte (drop l.i l.text)
