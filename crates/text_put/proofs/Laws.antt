-- What follows of a text that is put into a buffer: the buffer keeps its length, and a text put behind another is as the
-- two put at once.
use Prim.Native.Nat.{ℕ, ◌+◌, ◌-◌, ◌≤◌, min}
use mathlib.Core.Path.{◌≡◌, sym, ◌∙◌, ap, subst}
use mathlib.Core.List.{List, [], ◌++◌, append_assoc}
use native.Mathlib.Decide.{dec_lt, dec_le}
use native.Mathlib.Omega.{arith}
use native.Mathlib.Nat.{add_assoc}
use lib.ListN.{length, take, drop, length-append}
use lib.Seq.{paste, paste-zero, length-paste, take-paste, drop-paste, take-append-add, take-append-le, take-length, drop-drop}
use Rattle.text_put.specs.Text.{put_at, end_of}

-- a text that finds no room leaves the buffer alone
pub put_none : (buffer : List ℕ) (at : ℕ) (text : List ℕ) → length buffer ≤ at → put_at buffer at text ≡ buffer
unfolding put_at
put_none buffer at text h =
    let none : min (length text) (length buffer - at) ≡ 0 = omega arith in
    rw none (sym (paste-zero buffer at text))

-- and so does no text
pub put_no_text : (buffer : List ℕ) (at : ℕ) → put_at buffer at [] ≡ buffer
unfolding put_at
put_no_text buffer at =
    let none : min (length {A = ℕ} []) (length buffer - at) ≡ 0 = omega arith in
    rw none (sym (paste-zero buffer at []))

pub length_put : (buffer : List ℕ) (at : ℕ) (text : List ℕ) → length (put_at buffer at text) ≡ length buffer
unfolding put_at
length_put buffer at text =
    elim (dec_lt (length buffer) at) [
      | yes out ↦ ap length (put_none buffer at text (omega arith))
      | no within ↦ length-paste buffer at text (min (length text) (length buffer - at)) (omega arith) (omega arith)
    ]

-- with the count of bytes that find room at hand
put_is : (buffer : List ℕ) (at : ℕ) (text : List ℕ) (n : ℕ) → min (length text) (length buffer - at) ≡ n
    → put_at buffer at text ≡ paste buffer at text n
unfolding put_at
put_is buffer at text n e = ap (paste buffer at text) e

-- a text put behind another
module _ (buffer : List ℕ) (at : ℕ) (first second : List ℕ) where
  pub end_join : end_of (put_at buffer at first) (end_of buffer at first) second ≡ end_of buffer at (first ++ second)
  unfolding end_of
  end_join = rw (length_put buffer at first, length-append first second) (omega arith)

  paste_join : (m : ℕ) → at ≤ length buffer
      → paste (paste buffer at first (length first)) (at + length first) second m
      ≡ paste buffer at (first ++ second) (length first + m)
  paste_join m h =
      let x : List ℕ = paste buffer at first (length first) in
      let front : take (at + length first) x ≡ take at buffer ++ first =
      take-paste buffer at first (length first) h (omega arith)
      ∙ ap (λ (l : List ℕ). take at buffer ++ l) (take-length first) in
      let back : drop (at + length first + m) x ≡ drop (at + (length first + m)) buffer =
      sym (drop-drop m (at + length first) x)
      ∙ ap (drop m) (drop-paste buffer at first (length first) h (omega arith))
      ∙ drop-drop m (at + length first) buffer
      ∙ ap (λ (k : ℕ). drop k buffer) (add_assoc at (length first) m) in
      let middle : (take at buffer ++ first) ++ take m second ≡ take at buffer ++ take (length first + m) (first ++ second) =
      append_assoc (take at buffer) first (take m second)
      ∙ ap (λ (l : List ℕ). take at buffer ++ l) (sym (take-append-add first second m)) in
      ap (λ (l : List ℕ). l ++ take m second ++ drop (at + length first + m) x) front
      ∙ ap (λ (l : List ℕ). l ++ drop (at + length first + m) x) middle
      ∙ ap (λ (l : List ℕ). take at buffer ++ take (length first + m) (first ++ second) ++ l) back

  pub put_join : put_at (put_at buffer at first) (end_of buffer at first) second ≡ put_at buffer at (first ++ second)
  unfolding end_of
  put_join =
      elim (dec_le (at + length first) (length buffer)) [
        | yes fits ↦
            let m : ℕ = min (length second) (length buffer - (at + length first)) in
            let x : List ℕ = paste buffer at first (length first) in
            let here : put_at buffer at first ≡ x = put_is buffer at first (length first) (omega arith) in
            let there : end_of buffer at first ≡ at + length first = omega arith in
            let same : length x ≡ length buffer = length-paste buffer at first (length first) fits (omega arith) in
            let room : min (length (first ++ second)) (length buffer - at) ≡ length first + m =
            rw (length-append first second) (omega arith) in
            rw (here, there)
            (put_is x (at + length first) second m (ap (λ (l : ℕ). min (length second) (l - (at + length first))) same)
            ∙ paste_join m (omega arith)
            ∙ sym (put_is buffer at (first ++ second) (length first + m) room))
        | no full ↦
            let n : ℕ = length buffer - at in
            let there : end_of buffer at first ≡ length buffer = omega arith in
            let cut : take n (first ++ second) ≡ take n first = take-append-le n first second (omega arith) in
            let room : min (length (first ++ second)) (length buffer - at) ≡ n =
            rw (length-append first second) (omega arith) in
            rw there
            (put_none (put_at buffer at first) (length buffer) second (omega (arith, length_put buffer at first))
            ∙ put_is buffer at first n (omega arith)
            ∙ ap (λ (l : List ℕ). take at buffer ++ l ++ drop (at + n) buffer) (sym cut)
            ∙ sym (put_is buffer at (first ++ second) n room))
      ]

-- the same of the answers of two calls: `Puts buffer at text end after` is what a call that puts a text ensures
abbrev pub Puts : List ℕ → ℕ → List ℕ → ℕ → List ℕ → Type 0
Puts buffer at text end after = (end ≡ end_of buffer at text) × (after ≡ put_at buffer at text)

pub behind : (buffer : List ℕ) (at : ℕ) (first second : List ℕ) (middle end : ℕ) (between after : List ℕ)
    → Puts buffer at first middle between
    → Puts between middle second end after
    → Puts buffer at (first ++ second) end after
behind buffer at first second middle end between after p q = (
  q.0 ∙ ap (λ (b : List ℕ). end_of b middle second) p.1
      ∙ ap (λ (m : ℕ). end_of (put_at buffer at first) m second) p.0
      ∙ end_join buffer at first second,
  q.1 ∙ ap (λ (b : List ℕ). put_at b middle second) p.1
      ∙ ap (λ (m : ℕ). put_at (put_at buffer at first) m second) p.0
      ∙ put_join buffer at first second,
)

-- the same of a text that is another in other words
pub puts_as : (buffer : List ℕ) (at : ℕ) (text text' : List ℕ) (end : ℕ) (after : List ℕ) → text ≡ text'
    → Puts buffer at text end after
    → Puts buffer at text' end after
puts_as buffer at text text' end after e p = subst (λ (t : List ℕ). Puts buffer at t end after) e p

-- a text that finds room stands behind what was there, ends where it ends, and leaves what is behind it alone
pub put_whole : (buffer : List ℕ) (at : ℕ) (text : List ℕ) (end : ℕ) (after : List ℕ) → at + length text ≤ length buffer
    → Puts buffer at text end after
    → (end ≡ at + length text)
    × (length after ≡ length buffer)
    × (take end after ≡ take at buffer ++ text)
    × (drop end after ≡ drop end buffer)
unfolding end_of
put_whole buffer at text end after room p =
    let n : ℕ = length text in
    let there : end ≡ at + n = omega (arith, p.0) in
    let here : after ≡ paste buffer at text n = p.1 ∙ put_is buffer at text n (omega arith) in
    let front : take (at + n) (paste buffer at text n) ≡ take at buffer ++ text =
    take-paste buffer at text n (omega arith) (omega arith) ∙ ap (λ (l : List ℕ). take at buffer ++ l) (take-length text) in
    let back : drop (at + n) (paste buffer at text n) ≡ drop (at + n) buffer =
    drop-paste buffer at text n (omega arith) (omega arith) in (
      there,
      ap length p.1 ∙ length_put buffer at text,
      ap (λ (l : List ℕ). take end l) here ∙ ap (λ (m : ℕ). take m (paste buffer at text n)) there ∙ front,
      ap (λ (l : List ℕ). drop end l) here
          ∙ ap (λ (m : ℕ). drop m (paste buffer at text n)) there
          ∙ back
          ∙ ap (λ (m : ℕ). drop m buffer) (sym there),
    )
