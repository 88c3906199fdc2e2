-- A worked case: what is printed for a record of an unknown kind.
use Rattle.std.specs.Prelude.{refl, List, [], ℕ, Err}
use Rattle.text_put.specs.Text.{spelled, decimal_in}
use Rattle.ground_refusals.specs.declared.Refusal.TheVariants.{UnknownKind}
use Rattle.record_answer.specs.Answer.{LineOf}

-- the second record of an input; the working store stays as it was
pub unknown_kind : (store : List ℕ) → LineOf (Err UnknownKind) [] 2 store store (spelled "2 refused 7\n")
unfolding decimal_in
unknown_kind store = (refl, refl)
