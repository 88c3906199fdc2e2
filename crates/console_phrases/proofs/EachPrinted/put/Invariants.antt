use Rattle.text_put.proofs.Laws.{Puts}
use Rattle.console_phrases.specs.Phrases.{each_of}
use Rattle.console_phrases.proofs.EachPrinted.put.Given as goal

abbrev pub invariant-loop-i : goal.invariant-loop-i
invariant-loop-i g l = Puts l.fn.buffer l.at (each_of (g.R.Row.text_of l.self.0) l.i) l.end l.buffer
