use Rattle.std.proofs.Common.{rules, sym, ap, ◌∙◌, arith}
use Rattle.std.proofs.lemmas.Slice.Eq.{text_from_reads}
use Rattle.text_put.specs.Text.{spelled}
use Rattle.console_script.specs.Script.{key_in}
use Rattle.console_script.proofs.key_of.Goals as goal

pub returns-in-advance : goal.returns-in-advance
unfolding key_in
returns-in-advance c = ap key_in (sym (text_from_reads c.args.rest.now (spelled "advance") (omega arith) (search rules)))

pub returns-in-backspace : goal.returns-in-backspace
unfolding key_in
returns-in-backspace c = ap key_in (sym (text_from_reads c.args.rest.now (spelled "backspace") (omega arith) (search rules)))

pub returns-in_default : goal.returns-in_default
unfolding key_in
returns-in_default c = c.code_of.ensures ∙ (search rules)
