-- The open line: what is kept of it, and what a piece adds.
use Prim.Native.Nat.{ℕ, ◌+◌, ◌-◌, ◌≤◌, min}
use mathlib.Core.Path.{◌≡◌, refl, sym, ap, ◌∙◌}
use mathlib.Core.Bool.{Bool, true, false, cond}
use mathlib.Core.List.{List, [], ◌∷◌, ◌++◌}
use native.Mathlib.Decide.{dec_le}
use native.Mathlib.Omega.{arith}
use lib.ListN.{length, take, length-take}
use lib.Seq.{take_all, take-take, take-append-add, take-paste}
use lib.Dec.{eqb}
use borrow.Author.Tests.{eq-eqb, ne_eqb, eqb-true}
use Rattle.text_parse.specs.Index.{index_of}
use Rattle.text_parse.proofs.Index.{none_first, none_both}
use Rattle.text_put.specs.Text.{put_at, end_of}
use Rattle.text_put.proofs.Laws.{Puts}
use Rattle.console_intake.specs.Intake.{open_line, LineFound}
use Rattle.text_pieces.specs.declared.Found.TheVariants.{Whole, Open}

-- the first bytes of what is kept, where no newline is among them
pub open_is : (seen : ℕ) (kept line : List ℕ) → line ≡ take seen kept → index_of 10 line ≡ length line → line ≡ open_line seen kept
unfolding open_line
open_is seen kept line e none =
    let test : eqb (index_of 10 (take seen kept)) (length (take seen kept)) ≡ true =
    eq-eqb (index_of 10 (take seen kept)) (length (take seen kept)) (rw e at none) in
    rw test e

pub open_not : (seen : ℕ) (kept line : List ℕ) → line ≡ take seen kept → (index_of 10 line ≡ length line → ⊥) → [] ≡ open_line seen kept
unfolding open_line
open_not seen kept line e some =
    let test : eqb (index_of 10 (take seen kept)) (length (take seen kept)) ≡ false =
    ne_eqb (index_of 10 (take seen kept)) (length (take seen kept)) (rw e at some) in
    rw test

-- it has no newline
pub open_none : (seen : ℕ) (kept : List ℕ) → index_of 10 (open_line seen kept) ≡ length (open_line seen kept)
unfolding open_line index_of
open_none seen kept = by (eqb (index_of 10 (take seen kept)) (length (take seen kept))) refl
  where
    by : (t : Bool) → eqb (index_of 10 (take seen kept)) (length (take seen kept)) ≡ t
        → index_of 10 (cond t (take seen kept) []) ≡ length (cond t (take seen kept) [])
    by true e = eqb-true (index_of 10 (take seen kept)) (length (take seen kept)) e
    by false e = refl

-- and stands at the front of what is kept
pub open_front : (seen : ℕ) (kept : List ℕ) → (length (open_line seen kept) ≤ length kept) × (take (length (open_line seen kept)) kept ≡ open_line seen kept)
unfolding open_line
open_front seen kept = by (eqb (index_of 10 (take seen kept)) (length (take seen kept)))
  where
    by : (t : Bool) → (length (cond t (take seen kept) []) ≤ length kept) × (take (length (cond t (take seen kept) [])) kept ≡ cond t (take seen kept) [])
    by true =
        let size : length (take seen kept) ≡ min seen (length kept) = length-take seen kept in (
          omega arith,
          elim (dec_le seen (length kept)) [
            | yes h ↦ let all : length (take seen kept) ≡ seen = omega arith in ap (λ (n : ℕ). take n kept) all
            | no h ↦
                take_all (length (take seen kept)) kept (omega arith) ∙ sym (take_all seen kept (omega arith))
          ],
        )
    by false = (omega arith, refl)

pub none_is : (s : List ℕ) → length s ≡ 0 → s ≡ []
none_is [] e = refl
none_is (x ∷ s) e = absurd (omega arith)

-- a text that is put behind the front of a buffer, as far as there is room
pub put_front : (buffer : List ℕ) (at : ℕ) (text : List ℕ) (end : ℕ) (after : List ℕ) → at ≤ length buffer → Puts buffer at text end after
    → take end after ≡ take (length buffer) (take at buffer ++ text)
unfolding put_at end_of
put_front buffer at text end after h p =
    let room : ℕ = length buffer - at in
    let m : ℕ = min (length text) room in
    let there : end ≡ at + m = p.0 ∙ omega arith in
    let size : length (take at buffer) ≡ at = length-take at buffer ∙ omega arith in
    let whole : length buffer ≡ length (take at buffer) + room = omega arith in
    let much : take m text ≡ take room text =
    elim (dec_le (length text) room) [
      | yes h ↦ take_all m text (omega arith) ∙ sym (take_all room text h)
      | no h ↦ let all : m ≡ room = omega arith in ap (λ (n : ℕ). take n text) all
    ] in
    ap (take end) p.1
    ∙ ap (λ (n : ℕ). take n (put_at buffer at text)) there
    ∙ take-paste buffer at text m h (omega arith)
    ∙ ap (λ (l : List ℕ). take at buffer ++ l) much
    ∙ sym (take-append-add (take at buffer) text room)
    ∙ ap (λ (n : ℕ). take n (take at buffer ++ text)) (sym whole)

-- what a piece adds to the line that is open: all of it, or the bytes before its first newline
module _ (seen : ℕ) (kept begun : List ℕ) (is : begun ≡ open_line seen kept) where
  kept_more : (more : List ℕ) (end : ℕ) (after : List ℕ) → length kept ≡ 40001 → Puts kept (length begun) more end after
      → take end after ≡ take 40001 (open_line seen kept ++ more)
  kept_more more end after size p =
      let front = rw (← is) at (open_front seen kept) in
      put_front kept (length begun) more end after front.0 p
      ∙ ap (λ (n : ℕ). take n (take (length begun) kept ++ more)) size
      ∙ ap (λ (l : List ℕ). take 40001 (l ++ more)) (front.1 ∙ is)

  pub goes_on : (piece : List ℕ) (at seen' : ℕ) (after : List ℕ) → at ≡ index_of 10 piece → at ≡ length piece → length kept ≡ 40001
      → Puts kept (length begun) piece seen' after
      → LineFound (open_line seen kept) piece after (Open seen')
  goes_on piece at seen' after e none size p =
      let more : index_of 10 piece ≡ length piece = sym e ∙ none in
      let all = none_both 10 (open_line seen kept) piece (open_none seen kept) more in (
        more,
        sym (open_is seen' after (take 40001 (open_line seen kept ++ piece)) (sym (kept_more piece seen' after size p))
            (none_first 10 40001 (open_line seen kept ++ piece) all)),
      )

  -- where the piece has a newline
  module _ (piece : List ℕ) (at : ℕ) (e : at ≡ index_of 10 piece) (within : at + 1 ≤ length piece) where
    pub ends_kept : (more : List ℕ) (count : ℕ) (after : List ℕ) → more ≡ take at piece → length kept ≡ 40001
        → Puts kept (length begun) more count after
        → LineFound (open_line seen kept) piece after (Whole false count (at + 1))
    ends_kept more count after cut size p = (
      ap (λ (n : ℕ). n + 1) e,
      within,
      ap (take 40001) (kept_more more count after size p)
          ∙ take-take 40001 40001 (open_line seen kept ++ more) (omega arith)
          ∙ ap (λ (l : List ℕ). take 40001 (open_line seen kept ++ l)) (cut ∙ ap (λ (n : ℕ). take n piece) e),
    )

    pub ends_direct : (after : List ℕ) → length begun ≡ 0 → LineFound (open_line seen kept) piece after (Whole true at (at + 1))
    ends_direct after none = (
      ap (λ (n : ℕ). n + 1) e,
      within,
      ap (λ (n : ℕ). take 40001 (take n piece)) e
          ∙ ap (λ (l : List ℕ). take 40001 (l ++ take (index_of 10 piece) piece)) (sym (none_is begun none) ∙ is),
    )
