use Rattle.std.proofs.Common.{◌≡◌, ◌^◌, ◌<◌, drop}
use Rattle.text_parse.specs.Parse.{number_from}
use Rattle.text_parse.proofs.number_in.Given as goal

abbrev pub invariant-loop-byte : goal.invariant-loop-byte
invariant-loop-byte l =
    (l.n < 10 ^ l.byte-index) × (number_from l.n (drop l.byte-index l.text) ≡ number_from 0 l.text)
