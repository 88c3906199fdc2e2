-- 01's printed example: "Input `0A000000 0100 0010 0000 000000000000`, then `04000000 0100 0010 0100`. Whole output:", two lines.
use Prim.Native.Nat.{ℕ}
use mathlib.Core.Path.{◌≡◌, refl, sym, subst}
use mathlib.Core.List.{List, [], ◌∷◌, ◌++◌}
use native.Mathlib.Omega.{arith}
use lib.ListN.{length, drop, replicate, length-replicate}
use Rattle.text_put.specs.Text.{spelled, decimal_in}
use Rattle.ground_setup.specs.declared.Size.TheVariants.{K4}
use Rattle.record_format.specs.Records.{length_in, kind_in}
use Rattle.record_intake.specs.Printed.{nothing, listed}
use Rattle.record_lines.specs.Lines.{fault_line, refused_line}
use Rattle.record_answer.specs.Answer.{RecordLine}
use Rattle.ground_look.specs.declared.Fault.TheVariants.{Unwritten}
use Rattle.validator_store.specs.Layout.{room_of}
use Rattle.validator_verdict.specs.Verdict.{VerdictValues, Tried, tried_of, Judged}
use Rattle.validator_walks.proofs.Worked.{all_right}
use Rattle.record_listing.specs.Listing.{PrintedFor}

abbrev first : List ℕ
first = 10 ∷ 0 ∷ 0 ∷ 0 ∷ 1 ∷ 0 ∷ 0 ∷ 16 ∷ 0 ∷ 0 ∷ 0 ∷ 0 ∷ 0 ∷ 0 ∷ 0 ∷ 0 ∷ []

abbrev second : List ℕ
second = 4 ∷ 0 ∷ 0 ∷ 0 ∷ 1 ∷ 0 ∷ 0 ∷ 16 ∷ 1 ∷ 0 ∷ []

store : List ℕ
store = replicate 32768 0

size : length store ≡ 32768
unfolding store
size = length-replicate {A = ℕ} 32768 0

tried : tried_of 4096 6 0 (length store) ≡ Tried.fine K4
tried = subst (λ (n : ℕ). tried_of 4096 6 0 n ≡ Tried.fine K4) (sym size) refl

first_line_lem : RecordLine 1 first (fault_line 1 1 6 3)
unfolding kind_in
first_line_lem =
    let left : List ℕ = replicate (room_of K4) 0 ++ drop (room_of K4) store in (
      store,
      (
        left,
        (
          size,
          (
            VerdictValues.fault 1 6 3,
            subst (λ (t : Tried). Judged t (0 ∷ 0 ∷ 0 ∷ 0 ∷ 0 ∷ 0 ∷ []) 0 store left (VerdictValues.fault 1 6 3)) (sym tried) ((Unwritten, refl, all_right.2.0), refl),
            refl,
          ),
        ),
      ),
    )

refused : tried_of 4096 0 1 (length store) ≡ Tried.no 3
refused = subst (λ (n : ℕ). tried_of 4096 0 1 n ≡ Tried.no 3) (sym size) refl

second_line : RecordLine 2 second (refused_line 2 3)
unfolding kind_in
second_line = (
  store,
  (
    store,
    (
      size,
      (
        VerdictValues.refused 3,
        subst (λ (t : Tried). Judged t [] 1 store store (VerdictValues.refused 3)) (sym refused) (refl, refl),
        refl,
      ),
    ),
  ),
)

pub printed_example : PrintedFor (first ++ second) (spelled "1 fault 1 at 6 after 3\n2 refused 3\n")
unfolding length_in decimal_in
printed_example =
    listed 1 (first ++ second) (fault_line 1 1 6 3) (refused_line 2 3 ++ []) (omega arith) first_line_lem
    (listed 2 second (refused_line 2 3) [] (omega arith) second_line (nothing 3))
