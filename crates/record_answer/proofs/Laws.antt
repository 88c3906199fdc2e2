-- Equal payloads have the same lines; the first bytes of a record that suffice have its line; a record has one line, of 128 bytes at
-- most, and leaves the store as it was or zero.
use Rattle.ground_setup.specs.declared.Size.{Size}
use Rattle.ground_refusals.specs.declared.Refusal.{Refusal}
use Prim.Native.Nat.{ℕ, ◌+◌, ◌≤◌, ◌<◌}
use mathlib.Core.Path.{◌≡◌, refl, sym, ap, subst, ◌∙◌}
use mathlib.Core.Bool.{Bool, cond}
use mathlib.Core.List.{List, ◌++◌, append-nil}
use mathlib.Core.Logic.{◌⊎◌, inl, inr}
use native.Mathlib.Decide.{dec_le, ℕ_discrete}
use native.Mathlib.Omega.{arith}
use borrow.Author.Tests.{eq-eqb, ne_eqb, lt-ltb, le-ltb}
use lib.ListN.{length, drop, replicate, length-drop, length-append, take-append-drop, get_or-append, drop_of_length-le}
use lib.Seq.{take_all, drop-append-le}
use Rattle.ground_refusals.specs.Refusals.{refusal_number}
use Rattle.ground_refusals.specs.declared.Refusal.TheVariants.{UnknownKind}
use Rattle.ground_setup.specs.Setup.{size_of, sized_of}
use Rattle.ground_setup.proofs.Laws.{sane}
use Rattle.std.specs.Prelude.{Option, Some, None, Result, Ok, Err}
use Rattle.std.specs.Option.{unwrap_or}
use Rattle.record_format.specs.Records.{le16, kind_in, extent_of, needed_in, payload_of}
use Rattle.record_format.specs.declared.Image.{Image}
use Rattle.record_format.proofs.First.{kind_first}
use Rattle.record_lines.proofs.Short.{passed_short, refused_short, fault_short}
use Rattle.record_intake.specs.Intake.{Suffices}
use Rattle.record_intake.proofs.Laws.{need_rest}
use Rattle.validator_store.specs.Layout.{room_of}
use Rattle.validator_store.proofs.Layouts.{room_here}
use Rattle.validator_verdict.specs.Verdict.{VerdictValues, Tried, tried_by, tried_of, Judged}
use Rattle.validator_verdict.proofs.Unique.{judged_unique}
use Rattle.record_answer.specs.Answer.{verdict_line, LineOf, AnswerOf, RecordLine, LineAnswered}

pub answered_as : {p q : Result Image Refusal} {image : List ℕ} {number : ℕ} {store store' buffer : List ℕ} {at : ℕ} {after : List ℕ} {end : ℕ}
    → p ≡ q
    → LineAnswered p image number store store' buffer at after end
    → LineAnswered q image number store store' buffer at after end
answered_as {p} {q} {image} {number} {store} {store'} {buffer} {at} {after} {end} e a =
    subst (λ (p : Result Image Refusal). LineAnswered p image number store store' buffer at after end) e a

-- AN IMAGE TOO LONG: one byte more than any buffer has, or more, and it is refused whatever it holds
module _ (n m start room : ℕ) (image image' s s' : List ℕ) (v : VerdictValues) (long : 0x8001 ≤ n) (long' : 0x8001 ≤ m) where
  long_alike : (sized : Result Size Refusal) → Judged (tried_by sized n start room) image start s s' v
      → Judged (tried_by sized m start room) image' start s s' v
  long_alike (Ok size) j =
      let no : tried_by (Ok size) n start room ≡ Tried.no 2 = simp (lt-ltb (size_of size) n (omega (arith, sane size))) in
      let no' : tried_by (Ok size) m start room ≡ Tried.no 2 = simp (lt-ltb (size_of size) m (omega (arith, sane size))) in
      subst (λ (t : Tried). Judged t image' start s s' v) (sym no') (subst (λ (t : Tried). Judged t image start s s' v) no j)
  long_alike (Err refusal) j = j

-- THE FIRST BYTES SUFFICE
le16_first : (a r : List ℕ) (at : ℕ) → at + 2 ≤ length a → le16 (a ++ r) at ≡ le16 a at
le16_first a r at h = rw (get_or-append a r 0 at (omega arith), get_or-append a r 0 (at + 1) (omega arith))

payload_first : (kind : ℕ) (a r : List ℕ) → kind ≡ 1 → 4 ≤ length a → payload_of kind (a ++ r) ≡ payload_of kind a
payload_first kind a r e four =
    simp (
      eq-eqb kind 1 e,
      le-ltb (length (a ++ r)) 4 (omega (arith, length-append a r)),
      le-ltb (length a) 4 four,
      le16_first a r 0 (omega arith),
      le16_first a r 2 (omega arith),
    )

payload_unknown : (kind : ℕ) (p : List ℕ) → (kind ≡ 1 → ⊥) → payload_of kind p ≡ Err UnknownKind
payload_unknown kind p other = simp (ne_eqb kind 1 other)

row_one : (kind : ℕ) → kind ≡ 1 → needed_in kind ≡ 0x8005
row_one kind e = ap (λ (t : Bool). unwrap_or (cond {A = Option ℕ} t (Some 0x8005) None) 0) (eq-eqb kind 1 e)

image_alike : (p : Result Image Refusal) (number : ℕ) (image image' s s' line : List ℕ) → 0x8001 ≤ length image → 0x8001 ≤ length image'
    → LineOf p image number s s' line
    → LineOf p image' number s s' line
image_alike (Err refusal) number image image' s s' line long long' l = l
image_alike (Ok head) number image image' s s' line long long' l =
    (l.0, long_alike (length image) (length image') head.start (length s) image image' s s' l.0 long long' (sized_of head.size) l.1, l.2)

module _ (number : ℕ) (first whole s s' line : List ℕ) (all : length whole ≡ extent_of whole) (x : Suffices first whole) where
  rest : List ℕ
  rest = drop (length first) whole

  both : first ++ rest ≡ whole
  unfolding rest
  both = ap (λ (l : List ℕ). l ++ drop (length first) whole) x.begins ∙ take-append-drop (length first) whole

  six : 6 ≤ length first
  six = omega (arith, x.enough, need_rest whole (omega arith))

  kind_same : kind_in whole ≡ kind_in first
  kind_same = ap kind_in (sym both) ∙ kind_first first rest six

  part : (n : ℕ) → n ≤ length first → drop n whole ≡ drop n first ++ rest
  part n h = ap (drop n) (sym both) ∙ drop-append-le n first rest h

  answer_kind : (kind : ℕ) → kind_in whole ≡ kind → length first < length whole
      → LineOf (payload_of kind (drop 6 first)) (drop 10 first) number s s' line
      → LineOf (payload_of kind (drop 6 whole)) (drop 10 whole) number s s' line
  answer_kind kind is shorter a =
      elim (ℕ_discrete kind 1) [
        | yes one ↦
            let row : needed_in (kind_in whole) ≡ 0x8005 = row_one (kind_in whole) (is ∙ one) in
            let long : 0x800B ≤ length first = omega (arith, x.enough, need_rest whole (omega arith)) in
            let same : payload_of kind (drop 6 whole) ≡ payload_of kind (drop 6 first) =
            ap (payload_of kind) (part 6 (omega arith)) ∙ payload_first kind (drop 6 first) rest one (omega (arith, length-drop 6 first)) in
            subst (λ (p : Result Image Refusal). LineOf p (drop 10 whole) number s s' line) (sym same)
            (image_alike (payload_of kind (drop 6 first)) number (drop 10 first) (drop 10 whole) s s' line
            (omega (arith, length-drop 10 first)) (omega (arith, length-drop 10 whole)) a)
        | no other ↦
            subst (λ (p : Result Image Refusal). LineOf p (drop 10 whole) number s s' line) (sym (payload_unknown kind (drop 6 whole) other))
            (subst (λ (p : Result Image Refusal). LineOf p (drop 10 first) number s s' line) (payload_unknown kind (drop 6 first) other) a)
      ]

  pub answer_first : AnswerOf number first s s' line → AnswerOf number whole s s' line
  answer_first a =
      elim (dec_le (length whole) (length first)) [
        | yes h ↦
            let same : first ≡ whole = x.begins ∙ take_all (length first) whole h in
            subst (λ (l : List ℕ). AnswerOf number l s s' line) same a
        | no h ↦
            answer_kind (kind_in whole) refl (omega arith)
            (subst (λ (k : ℕ). LineOf (payload_of k (drop 6 first)) (drop 10 first) number s s' line) (sym kind_same) a)
      ]

-- ONE LINE
judged_alike : (t : Tried) (image : List ℕ) (start : ℕ) (s s₁ r r₁ : List ℕ) (v w : VerdictValues) → Judged t image start s s₁ v
    → Judged t image start r r₁ w
    → v ≡ w
judged_alike (Tried.no n) image start s s₁ r r₁ v w x y = x.0 ∙ sym y.0
judged_alike (Tried.fine size) image start s s₁ r r₁ v w x y =
    (judged_unique (Tried.fine size) image start s s₁ s₁ v w x (y.0, x.1)).0

line_alike : (p : Result Image Refusal) (image : List ℕ) (number : ℕ) (s s₁ r r₁ a b : List ℕ) → length s ≡ length r
    → LineOf p image number s s₁ a
    → LineOf p image number r r₁ b
    → a ≡ b
line_alike (Err refusal) image number s s₁ r r₁ a b e x y = x.0 ∙ sym y.0
line_alike (Ok head) image number s s₁ r r₁ a b e x y =
    let t : Tried = tried_of head.size (length image) head.start (length s) in
    let y' : Judged t image head.start r r₁ y.0 =
    subst (λ (n : ℕ). Judged (tried_of head.size (length image) head.start n) image head.start r r₁ y.0) (sym e) y.1 in
    x.2
    ∙ ap (verdict_line number) (judged_alike t image head.start s s₁ r r₁ x.0 y.0 x.1 y')
    ∙ sym y.2

pub one_line : (number : ℕ) (whole a b : List ℕ) → RecordLine number whole a → RecordLine number whole b → a ≡ b
one_line number whole a b x y =
    line_alike (payload_of (kind_in whole) (drop 6 whole)) (drop 10 whole) number x.0 x.1.0 y.0 y.1.0 a b
    (x.1.1.0 ∙ sym y.1.1.0) x.1.1.1 y.1.1.1

-- NO LINE IS LONGER THAN 128 BYTES
verdict_short : (number : ℕ) (v : VerdictValues) → length (verdict_line number v) ≤ 128
verdict_short number (VerdictValues.passed places) = passed_short number places
verdict_short number (VerdictValues.fault fault address steps) = fault_short number fault address steps
verdict_short number (VerdictValues.refused refusal) = refused_short number refusal

pub line_short : (p : Result Image Refusal) (image : List ℕ) (number : ℕ) (s s' line : List ℕ) → LineOf p image number s s' line → length line ≤ 128
line_short (Err refusal) image number s s' line l =
    subst (λ (t : List ℕ). length t ≤ 128) (sym l.0) (refused_short number (refusal_number refusal))
line_short (Ok head) image number s s' line l =
    subst (λ (t : List ℕ). length t ≤ 128) (sym l.2) (verdict_short number l.0)

-- THE STORE is left as it was, or zero
tried_left : (t : Tried) (image : List ℕ) (start : ℕ) (s s' : List ℕ) (v : VerdictValues) → length s ≡ 32768 → Judged t image start s s' v
    → (s' ≡ s) ⊎ (s' ≡ replicate 32768 0)
tried_left (Tried.no n) image start s s' v size j = inl j.1
tried_left (Tried.fine kind) image start s s' v size j =
    let room : room_of kind ≡ 32768 = room_here kind in
    inr
    (j.1
    ∙ ap (λ (n : ℕ). replicate n 0 ++ drop n s) room
    ∙ ap (λ (l : List ℕ). replicate 32768 0 ++ l) (drop_of_length-le s {i = 32768} (omega arith))
    ∙ append-nil (replicate 32768 0))

pub store_left : (p : Result Image Refusal) (image : List ℕ) (number : ℕ) (s s' line : List ℕ) → length s ≡ 32768 → LineOf p image number s s' line
    → (s' ≡ s) ⊎ (s' ≡ replicate 32768 0)
store_left (Err refusal) image number s s' line size l = inl l.1
store_left (Ok head) image number s s' line size l =
    tried_left (tried_of head.size (length image) head.start (length s)) image head.start s s' l.0 size l.1
