use Rattle.std.proofs.Common.{rules, sym, ap, ◌∙◌, arith, List, ℕ}
use Rattle.std.proofs.lemmas.Slice.Eq.{text_from_reads}
use Rattle.text_put.specs.Text.{spelled}
use Rattle.console_script.specs.Script.{argued_of}
use Rattle.console_script.proofs.argued_of.Goals as goal

pub returns-in-command : goal.returns-in-command
unfolding argued_of
returns-in-command c =
    c.command_of.ensures
    ∙ ap (λ (word : List ℕ). argued_of word c.args.rest.now) (sym (text_from_reads c.args.word.now (spelled "command") (omega arith) (search rules)))
