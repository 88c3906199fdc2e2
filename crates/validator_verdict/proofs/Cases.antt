-- Each row of the table in `specs/Cases.antt` holds, by computation. Assumes nothing.
use Rattle.std.specs.Prelude.{◌≡◌, refl, map}
use Rattle.validator_verdict.specs.Verdict.{tried_of}
use Rattle.validator_verdict.specs.Cases.{TriedCase, tried_cases}

-- each case of the table holds
pub tried_cases_lem : map (λ (c : TriedCase). tried_of c.size c.long c.start c.room) tried_cases ≡ map (λ (c : TriedCase). c.tried) tried_cases
tried_cases_lem = refl
