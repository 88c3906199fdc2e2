-- A program whose input has ended, and one that goes on.
use Prim.Native.Nat.{ℕ, ◌+◌, ◌≤◌, ◌<◌}
use mathlib.Core.Path.{◌≡◌, refl, sym, ap, subst}
use mathlib.Core.Bool.{Bool, true, false, cond}
use mathlib.Core.List.{List, [], ◌∷◌, ◌++◌}
use native.Mathlib.Omega.{arith}
use lib.ListN.{length, take, drop, length-append}
use Rattle.text_output.specs.Output.{Handed}
use Rattle.text_output.specs.declared.Output.{Output}
use Rattle.text_stream.specs.Ends.{EndedBy, StreamEnds, closed_of}
use Rattle.text_stream.specs.Listen.{Takes, Closes, AllGiven, GivenSoFar}
use Rattle.text_stream.specs.declared.Ending.TheVariants.{All, Shut}
use Rattle.text_pieces.specs.declared.Fed.{Fed}
use Rattle.text_stream.specs.declared.Streamed.{Streamed}

module _ (Whole SoFar : Streamed → Type 0) (came : ℕ) (output : Output) (r : Streamed) (is : r ≡ closed_of came output) where
  ended : (b : Bool) → output.open ≡ b → (output.open ≡ true → Whole (closed_of came output))
      → EndedBy Whole SoFar (closed_of came output) (cond b All Shut)
  ended true e all = all e
  ended false e all = e

  pub closed_ends : (output.open ≡ true → Whole (closed_of came output)) → StreamEnds Whole SoFar r
  closed_ends all =
      subst (λ (r : Streamed). EndedBy Whole SoFar r r.ending) (sym is) (ended output.open refl all)

-- WHERE THE PROGRAM STANDS: as many bytes came as the input has, which is taken in up to its rest; as many were written as were given out
pub record Between {A : Type 0} (Stands : A → List ℕ → List ℕ → List ℕ → Type 0) (l : A) (rest : List ℕ) (output : Output) (count : ℕ) : Type 0 where
  pub input : List ℕ
  pub text : List ℕ
  pub stands : Stands l input rest text
  pub came : length input ≡ count
  pub written : output.open ≡ true → length text ≡ output.written

module _ (A : Type 0) (Stands : A → List ℕ → List ℕ → List ℕ → Type 0) where
  -- the program begins
  pub begins : (l : A) (output : Output) → output.written ≡ 0 → Stands l [] [] [] → Between Stands l [] output 0
  begins l output none stands = record { input = []; text = []; stands = stands; came = refl; written = λ h. sym none }

  -- a piece comes
  pub comes : ((l : A) (input piece text : List ℕ) → Stands l input [] text → Stands l (input ++ piece) piece text) → (l : A) (piece : List ℕ)
      → (output : Output) (count n : ℕ)
      → length piece ≡ n
      → Between Stands l [] output count
      → Between Stands l piece output (count + n)
  comes more l piece output count n size b =
      record {
        input = b.input ++ piece;
        text = b.text;
        stands = more l b.input piece b.text b.stands;
        came = omega (arith, length-append b.input piece, b.came);
        written = b.written;
      }

  -- a call takes in some of it
  module _ (l l' : A) (rest out : List ℕ) (fed : Fed) (takes : Takes Stands l rest fed l' out) where
    pub goes_on : (output next : Output) (count : ℕ) (text : List ℕ) → text ≡ take fed.end out
        → Handed output (length text) (length text) next
        → Between Stands l rest output count
        → Between Stands l' (drop fed.used rest) next count
    goes_on output next count text is wrote b =
        record {
          input = b.input;
          text = b.text ++ take fed.end out;
          stands = takes.on b.input b.text b.stands;
          came = b.came;
          written =
              λ h.
              omega (
                arith,
                wrote.count h,
                b.written (wrote.was h),
                length-append b.text (take fed.end out),
                ap length is,
              );
        }

    pub some_used : (output : Output) (count : ℕ) → Between Stands l rest output count → count < 18446744073709551615 → 0 < length rest
        → 0 < fed.used
    some_used output count b few left = takes.some b.input b.text b.stands (omega (arith, b.came)) left

  -- nothing is left of a piece
  pub taken_in : (l : A) (rest : List ℕ) (output : Output) (count : ℕ) → length rest ≤ 0 → Between Stands l rest output count
      → Between Stands l [] output count
  taken_in l [] output count none b = b
  taken_in l (x ∷ rest) output count none b = absurd (omega arith)

  -- a read has failed
  pub fails : (l : A) (r : Streamed) → r.output.open ≡ true → Between Stands l [] r.output r.came → GivenSoFar Stands r
  fails l r still b =
      record {
        listener = l;
        input = b.input;
        text = b.text;
        stands = b.stands;
        came = b.came;
        written = b.written still;
      }

  -- the input has ended
  pub closes : (Whole : List ℕ → List ℕ → Type 0) (l : A) (output : Output) (count end : ℕ) (out text : List ℕ) (r : Streamed)
      → Closes Stands Whole l end out
      → text ≡ take end out
      → Handed output (length text) (length text) r.output
      → r.came ≡ count
      → Between Stands l [] output count
      → r.output.open ≡ true
      → AllGiven Whole r
  closes Whole l output count end out text r last is wrote came b still =
      record {
        input = b.input;
        text = b.text ++ take end out;
        whole = last.whole b.input b.text b.stands;
        came = omega (arith, b.came, came);
        written =
            omega (
              arith,
              wrote.count still,
              b.written (wrote.was still),
              length-append b.text (take end out),
              ap length is,
            );
      }
