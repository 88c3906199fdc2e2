use Rattle.std.proofs.Common.{◌*◌}
use Rattle.text_digits.specs.Digits.{hex_word_at}
use Rattle.console_decode.specs.contracts.fn.read_words.read_each as closure
use Rattle.console_decode.proofs.read_words.Given as goal

abbrev pub ghost-read_each : goal.ghost-read_each
ghost-read_each a = λ i. hex_word_at (closure.captures a.number).text.now (4 * i)
