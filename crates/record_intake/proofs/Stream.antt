-- THE WHOLE of an input, whatever the pieces that it comes in, for any `Line`.
use Prim.Native.Nat.{ℕ, ◌+◌}
use mathlib.Core.Path.{◌≡◌, refl, sym, ap, subst, ◌∙◌}
use mathlib.Core.List.{List, [], ◌++◌, append_assoc, append-nil}
use native.Mathlib.Omega.{arith}
use lib.ListN.{length, take, drop, length-append, take-append-drop}
use lib.Seq.{take-append_seam, drop-append_seam}
use Rattle.record_format.specs.Records.{extent_of}
use Rattle.record_intake.specs.Intake.{WholeRecord}
use Rattle.record_intake.specs.Printed.{Printed, nothing, headless, cut, listed, record_in, behind_in, Told}
use Rattle.record_intake.proofs.Laws.{extent_first}

module _ (Line : ℕ → List ℕ → List ℕ → Type 0) where
  printed_as : (number : ℕ) (s s' t : List ℕ) → s ≡ s' → Printed Line number s t → Printed Line number s' t
  printed_as number s s' t e p = subst (λ (l : List ℕ). Printed Line number l t) e p

  -- a whole record in front: its line, and what is printed behind it
  pub printed_whole : (number : ℕ) (w q line t : List ℕ) → length w ≡ extent_of w → Line number w line
      → Printed Line (number + 1) q t
      → Printed Line number (w ++ q) (line ++ t)
  printed_whole number w q line t whole here p =
      let same : extent_of (w ++ q) ≡ length w = extent_first w q (omega arith) ∙ sym whole in
      let front : record_in (w ++ q) ≡ w = ap (λ (n : ℕ). take n (w ++ q)) same ∙ take-append_seam w q in
      let back : behind_in (w ++ q) ≡ q = ap (λ (n : ℕ). drop n (w ++ q)) same ∙ drop-append_seam w q in
      listed number (w ++ q) line t (omega (arith, same, length-append w q))
      (subst (λ (l : List ℕ). Line number l line) (sym front) here)
      (printed_as (number + 1) q (behind_in (w ++ q)) t (sym back) p)

  -- A RECORD IS WHOLE: its line is told
  pub told_line : (number used : ℕ) (s piece first line : List ℕ) → WholeRecord s piece first used
      → Line number (s ++ take used piece) line
      → Told Line number s piece line (number + 1) [] (drop used piece)
  told_line number used s piece first line w here r t p =
      let all : List ℕ = s ++ take used piece in
      let joined : all ++ (drop used piece ++ r) ≡ s ++ (piece ++ r) =
      append_assoc s (take used piece) (drop used piece ++ r)
      ∙ ap (λ (l : List ℕ). s ++ l) (sym (append_assoc (take used piece) (drop used piece) r))
      ∙ ap (λ (l : List ℕ). s ++ (l ++ r)) (take-append-drop used piece) in
      printed_as number (all ++ (drop used piece ++ r)) (s ++ (piece ++ r)) (line ++ t) joined
      (printed_whole number all (drop used piece ++ r) line t w.whole here p)

  -- a record is open still: nothing is told
  pub told_none : (number : ℕ) (s piece : List ℕ) → Told Line number s piece [] number (s ++ piece) []
  told_none number s piece r t p = printed_as number ((s ++ piece) ++ r) (s ++ (piece ++ r)) t (append_assoc s piece r) p

  -- NOTHING IS LOST OR REPEATED: what is told of a piece up to its rest, and then of its rest, is told of the piece
  pub told_on : (n n₁ n₂ : ℕ) (s s₁ s₂ piece rest left text more : List ℕ) → Told Line n s piece text n₁ s₁ rest
      → Told Line n₁ s₁ rest more n₂ s₂ left
      → Told Line n s piece (text ++ more) n₂ s₂ left
  told_on n n₁ n₂ s s₁ s₂ piece rest left text more p q r t h =
      subst (λ (l : List ℕ). Printed Line n (s ++ (piece ++ r)) l) (sym (append_assoc text more t)) (p r (more ++ t) (q r t h))

  -- A PIECE AND THEN ANOTHER IS THE TWO JOINED, whatever was left of the first
  pub told_joined : (n n₁ n₂ : ℕ) (s s₁ s₂ a b rest text more : List ℕ) → Told Line n s a text n₁ s₁ rest
      → Told Line n₁ s₁ (rest ++ b) more n₂ s₂ []
      → Told Line n s (a ++ b) (text ++ more) n₂ s₂ []
  told_joined n n₁ n₂ s s₁ s₂ a b rest text more p q r t h =
      let behind : Printed Line n₁ (s₁ ++ (rest ++ (b ++ r))) (more ++ t) =
      printed_as n₁ (s₁ ++ ((rest ++ b) ++ r)) (s₁ ++ (rest ++ (b ++ r))) (more ++ t)
      (ap (λ (l : List ℕ). s₁ ++ l) (append_assoc rest b r)) (q r t h) in
      printed_as n (s ++ (a ++ (b ++ r))) (s ++ ((a ++ b) ++ r)) ((text ++ more) ++ t)
      (ap (λ (l : List ℕ). s ++ l) (sym (append_assoc a b r)))
      (subst (λ (l : List ℕ). Printed Line n (s ++ (a ++ (b ++ r))) l) (sym (append_assoc text more t))
      (p (b ++ r) (more ++ t) behind))

  -- TO THE END OF THE INPUT
  pub told_all : (n n' : ℕ) (s s' input text last : List ℕ) → Told Line n s input text n' s' [] → Printed Line n' s' last
      → Printed Line n (s ++ input) (text ++ last)
  told_all n n' s s' input text last p q =
      printed_as n (s ++ (input ++ [])) (s ++ input) (text ++ last) (ap (λ (l : List ℕ). s ++ l) (append-nil input))
      (p [] last (printed_as n' s' (s' ++ []) last (sym (append-nil s')) q))

  -- WHERE A RECORD HAS ONE LINE, AN INPUT HAS ONE TEXT
  pub one_text : ((n : ℕ) (s a b : List ℕ) → Line n s a → Line n s b → a ≡ b) → (n : ℕ) (s t u : List ℕ) → Printed Line n s t
      → Printed Line n s u
      → t ≡ u
  one_text one n s t u (nothing _) (nothing _) = refl
  one_text one n s t u (nothing _) (headless _ _ p q) = absurd (omega arith)
  one_text one n s t u (nothing _) (cut _ _ p q) = absurd (omega arith)
  one_text one n s t u (nothing _) (listed _ _ line rest p h q) = absurd (omega arith)
  one_text one n s t u (headless _ _ p q) (nothing _) = absurd (omega arith)
  one_text one n s t u (headless _ _ p q) (headless _ _ p' q') = refl
  one_text one n s t u (headless _ _ p q) (cut _ _ p' q') = absurd (omega arith)
  one_text one n s t u (headless _ _ p q) (listed _ _ line rest p' h q') = absurd (omega arith)
  one_text one n s t u (cut _ _ p q) (nothing _) = absurd (omega arith)
  one_text one n s t u (cut _ _ p q) (headless _ _ p' q') = absurd (omega arith)
  one_text one n s t u (cut _ _ p q) (cut _ _ p' q') = refl
  one_text one n s t u (cut _ _ p q) (listed _ _ line rest p' h q') = absurd (omega arith)
  one_text one n s t u (listed _ _ line rest p h q) (nothing _) = absurd (omega arith)
  one_text one n s t u (listed _ _ line rest p h q) (headless _ _ p' q') = absurd (omega arith)
  one_text one n s t u (listed _ _ line rest p h q) (cut _ _ p' q') = absurd (omega arith)
  one_text one n s t u (listed _ _ line rest p h q) (listed _ _ line' rest' p' h' q') =
      ap (λ (l : List ℕ). l ++ rest) (one n (record_in s) line line' h h')
      ∙ ap (λ (l : List ℕ). line' ++ l) (one_text one (n + 1) (behind_in s) rest rest' q q')
