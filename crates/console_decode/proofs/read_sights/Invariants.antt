use Rattle.text_digits.specs.Digits.{digit_at}
use Rattle.console_decode.specs.contracts.fn.read_sights.read_each as closure
use Rattle.console_decode.proofs.read_sights.Given as goal

abbrev pub ghost-read_each : goal.ghost-read_each
ghost-read_each a = digit_at (closure.captures a.number).text.now
