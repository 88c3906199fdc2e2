-- What is kept of a record, and what is found behind it.
use Prim.Native.Nat.{ℕ, ◌+◌, ◌-◌, ◌≤◌, ◌<◌, min}
use mathlib.Core.Path.{◌≡◌, refl, sym, ap, subst, ◌∙◌}
use mathlib.Core.Bool.{Bool, true, false, cond}
use mathlib.Core.List.{List, [], ◌∷◌, ◌++◌, append_assoc}
use native.Mathlib.Omega.{arith}
use native.Mathlib.Decide.{dec_lt}
use borrow.Author.Tests.{lt-ltb, le-ltb}
use lib.ListN.{length, take, drop, replicate, length-take, length-append, length-replicate, take-append-drop}
use lib.Seq.{take_all, take-take, take-append-le, take-append-add, length-take-le}
use lib.Dec.{eqb, ltb}
use Rattle.record_format.specs.Records.{length_in, kind_in, extent_of, header_of, HeaderWithin, needed_in}
use Rattle.std.specs.Prelude.{Option, Some, None}
use Rattle.std.specs.Option.{unwrap_or}
use Rattle.record_format.specs.declared.Header.{Header}
use Rattle.record_format.specs.declared.Header.TheVariants.{Record, Cut, End}
use Rattle.record_format.proofs.First.{length_first, kind_first, length_take_six, header_first, header_whole, header_is}
use Rattle.text_put.specs.Text.{put_at, end_of}
use Rattle.text_put.proofs.Laws.{put_whole, put_no_text}
use Rattle.record_intake.specs.Intake.{needed_of, OpenRecord, open_by, open_at, WholeRecord}

-- what can be needed of a record
pub need_head : (s : List ℕ) → length s < 6 → needed_of s ≡ 6
unfolding needed_of
need_head s h = simp (lt-ltb (length s) 6 h)

pub need_rest : (s : List ℕ) → 6 ≤ length s → needed_of s ≡ 6 + min (length_in s) (needed_in (kind_in s))
unfolding needed_of
need_rest s h = simp (le-ltb (length s) 6 h)

pub need_six : (s : List ℕ) → 6 ≤ needed_of s
need_six s =
    elim (dec_lt (length s) 6) [
      | yes h ↦ omega (arith, need_head s h)
      | no h ↦ omega (arith, need_rest s (omega arith))
    ]

-- by as many bytes as a header has
pub extent_first : (a r : List ℕ) → 6 ≤ length a → extent_of (a ++ r) ≡ extent_of a
extent_first a r six = ap (λ (n : ℕ). 6 + n) (length_first a r six)

pub need_first : (a r : List ℕ) → 6 ≤ length a → needed_of (a ++ r) ≡ needed_of a
need_first a r six =
    need_rest (a ++ r) (omega (arith, length-append a r))
    ∙ ap (λ (n : ℕ). 6 + min n (needed_in (kind_in (a ++ r)))) (length_first a r six)
    ∙ ap (λ (k : ℕ). 6 + min (length_in a) (needed_in k)) (kind_first a r six)
    ∙ sym (need_rest a six)

row_most : (t : Bool) → unwrap_or (cond {A = Option ℕ} t (Some 0x8005) None) 0 ≤ 32773
row_most true = omega arith
row_most false = omega arith

kind_most : (kind : ℕ) → needed_in kind ≤ 32773
kind_most kind = row_most (eqb kind 1)

pub need_most : (s : List ℕ) → needed_of s ≤ 32779
need_most s =
    elim (dec_lt (length s) 6) [
      | yes h ↦ omega (arith, need_head s h)
      | no h ↦ omega (arith, need_rest s (omega arith), kind_most (kind_in s))
    ]

-- KEEPING the bytes of a piece that fall among the first `most` of a record: those of both are kept then
module _ (most had : ℕ) (kept kept' piece : List ℕ) (room : most ≤ length kept) (put : kept' ≡ put_at kept had (take (most - had) piece)) where
  kept_still : most ≤ had → kept' ≡ kept
  kept_still h =
      let none : most - had ≡ 0 = omega arith in
      put ∙ ap (λ (n : ℕ). put_at kept had (take n piece)) none ∙ put_no_text kept had

  kept_more : had < most → take (min (had + length piece) most) kept' ≡ take had kept ++ take (most - had) piece
  kept_more h =
      let text : List ℕ = take (most - had) piece in
      let count : length text ≡ min (most - had) (length piece) = length-take (most - had) piece in
      let end : ℕ = had + length text in
      let there : end ≡ min (had + length piece) most = omega arith in
      let p = put_whole kept had text (end_of kept had text) kept' (omega arith) (refl, put) in
      ap (λ (n : ℕ). take n kept') (sym there) ∙ ap (λ (n : ℕ). take n kept') (sym p.0) ∙ p.2

  -- what stood before is kept
  pub kept_before : (n : ℕ) → n ≤ had → take n kept' ≡ take n kept
  kept_before n h =
      elim (dec_lt had most) [
        | yes c ↦
            let end : ℕ = min (had + length piece) most in
            let front : List ℕ = take had kept in
            let size : length front ≡ had = length-take-le had kept (omega arith) in
            sym (take-take n end kept' (omega arith))
            ∙ ap (take n) (kept_more c)
            ∙ take-append-le n front (take (most - had) piece) (omega arith)
            ∙ take-take n had kept h
        | no c ↦ ap (take n) (kept_still (omega arith))
      ]

  -- and what is new stands behind it
  pub kept_joined : (s : List ℕ) → had ≡ length s → take (min had most) kept ≡ take most s
      → take (min (had + length piece) most) kept' ≡ take most (s ++ piece)
  kept_joined s e first =
      elim (dec_lt had most) [
        | yes c ↦
            let few : min had most ≡ had = omega arith in
            let same : take had kept ≡ s = ap (λ (n : ℕ). take n kept) (sym few) ∙ first ∙ take_all most s (omega arith) in
            let there : most ≡ length s + (most - had) = omega arith in
            kept_more c
            ∙ ap (λ (l : List ℕ). l ++ take (most - had) piece) same
            ∙ sym (take-append-add s piece (most - had))
            ∙ ap (λ (n : ℕ). take n (s ++ piece)) (sym there)
        | no c ↦
            let all : min (had + length piece) most ≡ min had most = omega arith in
            ap (λ (n : ℕ). take n kept') all
            ∙ ap (take (min had most)) (kept_still (omega arith))
            ∙ first
            ∙ sym (take-append-le most s piece (omega arith))
      ]

-- THE HEADER, once a piece's bytes are kept with those before
pub header_kept : (had some : ℕ) (kept kept' s piece : List ℕ) → 6 ≤ length kept → some ≡ had + length piece
    → kept' ≡ put_at kept had (take (6 - had) piece)
    → OpenRecord had kept s
    → take (min some 6) kept' ≡ take 6 (s ++ piece)
header_kept had some kept kept' s piece room e put o =
    let six : min had 6 ≡ min 6 (min had (needed_of s)) = omega (arith, need_six s) in
    let before : take (min had 6) kept ≡ take 6 s =
    elim (dec_lt had 6) [
      | yes c ↦
          let need : needed_of s ≡ 6 = need_head s (omega (arith, o.count)) in
          ap (λ (n : ℕ). take (min had n) kept) (sym need) ∙ o.first ∙ ap (λ (n : ℕ). take n s) need
      | no c ↦
          let all : min had 6 ≡ 6 = omega arith in
          ap (λ (n : ℕ). take n kept) all
          ∙ sym (take-take 6 (min had (needed_of s)) kept (omega (arith, need_six s)))
          ∙ ap (take 6) o.first
          ∙ take-take 6 (needed_of s) s (need_six s)
    ] in
    ap (λ (n : ℕ). take (min n 6) kept') e ∙ kept_joined 6 had kept kept' piece room put s o.count before

-- what a header says
pub header_bound : (h : Header) (n kind : ℕ) → HeaderWithin h → h ≡ Record n kind → n < 4294967296
header_bound h n kind w e = (subst HeaderWithin e w).0

-- a record of which no header is whole is open
pub still_headless : (had some : ℕ) (kept kept' s piece : List ℕ) → some ≡ had + length piece
    → take (min some 6) kept' ≡ take 6 (s ++ piece)
    → length (s ++ piece) < 6
    → OpenRecord had kept s
    → OpenRecord some kept' (s ++ piece)
still_headless had some kept kept' s piece e first short o =
    let need : needed_of (s ++ piece) ≡ 6 = need_head (s ++ piece) short in
    record {
      count = omega (arith, o.count, length-append s piece);
      more = omega arith;
      first =
          ap (λ (n : ℕ). take (min some n) kept') need ∙ first ∙ ap (λ (n : ℕ). take n (s ++ piece)) (sym need);
    }

-- A RECORD WHOSE HEADER IS THERE: what can be needed of it is kept
pub record Headed (had some n kind count : ℕ) (kept kept₁ kept₂ piece : List ℕ) : Type 0 where
  pub room : 32779 ≤ length kept
  pub sum : some ≡ had + length piece
  pub put : kept₁ ≡ put_at kept had (take (6 - had) piece)
  pub head : Record n kind ≡ header_of (take (min some 6) kept₁)
  pub need : count ≡ 6 + min n (needed_in kind)
  pub size : length kept₁ ≡ length kept
  pub again : kept₂ ≡ put_at kept₁ had (take (count - had) piece)

module _ (had some n kind count : ℕ) (kept kept₁ kept₂ piece : List ℕ) (x : Headed had some n kind count kept kept₁ kept₂ piece) (s : List ℕ) (o : OpenRecord had kept s) where
  told : (6 ≤ length (s ++ piece)) × (n ≡ length_in (s ++ piece)) × (kind ≡ kind_in (s ++ piece))
  told =
      header_is (s ++ piece) n kind
      (sym (header_first (s ++ piece))
      ∙ ap header_of (sym (header_kept had some kept kept₁ s piece (omega (arith, x.room)) x.sum x.put o))
      ∙ sym x.head)

  counted : count ≡ needed_of (s ++ piece)
  counted =
      x.need
      ∙ ap (λ (m : ℕ). 6 + min m (needed_in kind)) told.1
      ∙ ap (λ (k : ℕ). 6 + min (length_in (s ++ piece)) (needed_in k)) told.2
      ∙ sym (need_rest (s ++ piece) told.0)

  both : length (s ++ piece) ≡ some
  both = length-append s piece ∙ ap (λ (m : ℕ). m + length piece) (sym o.count) ∙ sym x.sum

  before : take (min had count) kept₁ ≡ take count s
  before =
      let same : take (min had count) kept₁ ≡ take (min had count) kept =
      kept_before 6 had kept kept₁ piece (omega (arith, x.room)) x.put (min had count) (omega arith) in
      elim (dec_lt had 6) [
        | yes c ↦
            let six : 6 ≤ count = omega (arith, counted, need_six (s ++ piece)) in
            let few : min had count ≡ min had 6 = omega arith in
            let none : needed_of s ≡ 6 = need_head s (omega (arith, o.count)) in
            same
            ∙ ap (λ (m : ℕ). take m kept) few
            ∙ ap (λ (m : ℕ). take (min had m) kept) (sym none)
            ∙ o.first
            ∙ take_all (needed_of s) s (omega (arith, o.count))
            ∙ sym (take_all count s (omega (arith, o.count)))
        | no c ↦
            let like : needed_of s ≡ count = sym (need_first s piece (omega (arith, o.count))) ∙ sym counted in
            same
            ∙ ap (λ (m : ℕ). take (min had m) kept) (sym like)
            ∙ o.first
            ∙ ap (λ (m : ℕ). take m s) like
      ]

  after : take (min some count) kept₂ ≡ take count (s ++ piece)
  after =
      ap (λ (m : ℕ). take (min m count) kept₂) x.sum
      ∙ kept_joined count had kept₁ kept₂ piece (omega (arith, x.room, x.size, counted, need_most (s ++ piece))) x.again s o.count before

  pub still_open : some < 6 + n → OpenRecord some kept₂ (s ++ piece)
  still_open h =
      record {
        count = sym both;
        more = omega (arith, both, told.1);
        first =
            ap (λ (m : ℕ). take (min some m) kept₂) (sym counted) ∙ after ∙ ap (λ (m : ℕ). take m (s ++ piece)) counted;
      }

  pub less : had < 6 + n
  less =
      elim (dec_lt had 6) [
        | yes c ↦ omega arith
        | no c ↦ omega (arith, o.count, o.more, extent_first s piece (omega (arith, o.count)), told.1)
      ]

  pub is_whole : 6 + n ≤ some → WholeRecord s piece (take count kept₂) (6 + n - had)
  is_whole h =
      let used : ℕ = 6 + n - had in
      let w : List ℕ = s ++ take used piece in
      let part : length (take used piece) ≡ used = length-take-le used piece (omega (arith, less, x.sum)) in
      let long : length w ≡ 6 + n = length-append s (take used piece) ∙ omega (arith, part, o.count, less) in
      let joined : w ++ drop used piece ≡ s ++ piece =
      append_assoc s (take used piece) (drop used piece) ∙ ap (λ (l : List ℕ). s ++ l) (take-append-drop used piece) in
      let extent : extent_of w ≡ 6 + n =
      sym (extent_first w (drop used piece) (omega arith)) ∙ ap extent_of joined ∙ omega (arith, told.1) in
      let needs : needed_of w ≡ count =
      sym (need_first w (drop used piece) (omega arith)) ∙ ap needed_of joined ∙ sym counted in
      let few : count ≤ 6 + n = omega (arith, x.need) in
      let all : min some count ≡ count = omega arith in
      let is : take count kept₂ ≡ take count w =
      ap (λ (m : ℕ). take m kept₂) (sym all)
      ∙ after
      ∙ ap (take count) (sym joined)
      ∙ take-append-le count w (drop used piece) (omega arith) in
      let size : length (take count kept₂) ≡ count = ap length is ∙ length-take-le count w (omega arith) in
      record {
        whole = long ∙ sym extent;
        told =
            record {
              begins = is ∙ ap (λ (m : ℕ). take m w) (sym size);
              enough = omega (arith, size, needs);
            };
      }

-- a record that a piece holds whole, where none is open
pub whole_here : (s kept piece : List ℕ) (size : ℕ) → 6 ≤ length piece → size ≡ extent_of piece → size ≤ length piece
    → OpenRecord 0 kept s
    → WholeRecord s piece (take size piece) size
whole_here [] kept piece size six e all o =
    let w : List ℕ = take size piece in
    let long : length w ≡ size = length-take-le size piece all in
    let same : extent_of w ≡ size = ap (λ (n : ℕ). 6 + n) (length_take_six size piece (omega arith) six) ∙ sym e in
    record {
      whole = long ∙ sym same;
      told = record { begins = sym (take_all (length w) w (omega arith)); enough = omega arith };
    }
whole_here (x ∷ xs) kept piece size six e all o = absurd (omega (arith, o.count))

pub whole_head : (s piece first : List ℕ) (used : ℕ) → WholeRecord s piece first used → 6 ≤ length first
whole_head s piece first used w = omega (arith, w.whole, w.told.enough, need_six (s ++ take used piece))

-- EVERY STATE IS OF SOME RECORD
pub some_record : (had : ℕ) (kept : List ℕ) → 32779 ≤ length kept → had < extent_of kept → (s : List ℕ) × OpenRecord had kept s
some_record had kept room more =
    let zeros : List ℕ = replicate had 0 in
    let all : List ℕ = kept ++ zeros in
    let s : List ℕ = take had all in
    let size : length s ≡ had = length-take-le had all (omega (arith, length-append kept zeros, length-replicate {A = ℕ} had 0)) in
    let need : ℕ = needed_of s in
    let most = need_most s in
    let least : min need had ≡ min had need = omega arith in
    let first : take (min had need) kept ≡ take need s =
    elim (dec_lt need had) [
      | yes c ↦
          let all_of : min had need ≡ need = omega arith in
          ap (λ (n : ℕ). take n kept) all_of
          ∙ sym (take-append-le need kept zeros (omega arith))
          ∙ sym (take-take need had all (omega arith))
      | no c ↦
          let all_of : min had need ≡ had = omega arith in
          ap (λ (n : ℕ). take n kept) all_of
          ∙ sym (take-append-le had kept zeros (omega arith))
          ∙ sym (take_all need s (omega arith))
    ] in
    let open-still : length s < extent_of s =
    elim (dec_lt had 6) [
      | yes c ↦ omega arith
      | no c ↦
          omega (
            arith,
            length_take_six had all (omega arith) (omega (arith, length-append kept zeros)),
            extent_first kept zeros (omega arith),
          )
    ] in
    (s, record { count = sym size; more = open-still; first = first })

-- a state that a call has left is read as it is
open_as : (seen : ℕ) (kept s : List ℕ) → 6 ≤ length kept → OpenRecord seen kept s → open_at seen kept ≡ seen
open_as seen kept s room o =
    let less : seen < extent_of kept =
    elim (dec_lt seen 6) [
      | yes c ↦ omega arith
      | no c ↦
          let six : take 6 kept ≡ take 6 s =
          sym (take-take 6 (min seen (needed_of s)) kept (omega (arith, need_six s)))
          ∙ ap (take 6) o.first
          ∙ take-take 6 (needed_of s) s (need_six s) in
          let same : length_in kept ≡ length_in s =
          sym (length_take_six 6 kept (omega arith) room)
          ∙ ap length_in six
          ∙ length_take_six 6 s (omega arith) (omega (arith, o.count)) in
          omega (arith, o.more, o.count)
    ] in
    ap (open_by seen) (header_whole kept room) ∙ simp (lt-ltb seen (6 + length_in kept) less)

pub open_again : (seen : ℕ) (kept s : List ℕ) → 6 ≤ length kept → OpenRecord seen kept s → OpenRecord (open_at seen kept) kept s
open_again seen kept s room o = subst (λ (n : ℕ). OpenRecord n kept s) (sym (open_as seen kept s room o)) o

-- and any other as one that a call could have left
pub open_less : (seen : ℕ) (kept : List ℕ) → 6 ≤ length kept → open_at seen kept < extent_of kept
open_less seen kept room =
    let like : open_at seen kept ≡ cond (ltb seen (6 + length_in kept)) seen 0 = ap (open_by seen) (header_whole kept room) in
    elim (dec_lt seen (6 + length_in kept)) [
      | yes c ↦
          let same : cond (ltb seen (6 + length_in kept)) seen 0 ≡ seen = simp (lt-ltb seen (6 + length_in kept) c) in
          omega (arith, like, same)
      | no c ↦
          let same : cond (ltb seen (6 + length_in kept)) seen 0 ≡ 0 = simp (le-ltb seen (6 + length_in kept) (omega arith)) in
          omega (arith, like, same)
    ]

-- nothing is open
none_either : (t : Bool) (n : ℕ) → n ≡ 0 → cond t n 0 ≡ 0
none_either true n e = e
none_either false n e = refl

none_open : (h : Header) → open_by 0 h ≡ 0
none_open (Record n kind) = none_either (ltb 0 (6 + n)) 0 refl
none_open Cut = refl
none_open End = refl

open_zero : (kept : List ℕ) → open_at 0 kept ≡ 0
open_zero kept = none_open (header_of kept)

none_kept : (kept : List ℕ) → OpenRecord 0 kept []
unfolding needed_of
none_kept kept =
    record { count = refl; more = omega arith; first = sym (take_all (needed_of []) [] (omega arith)) }

pub open_none : (kept : List ℕ) → OpenRecord (open_at 0 kept) kept []
open_none kept = subst (λ (n : ℕ). OpenRecord n kept []) (sym (open_zero kept)) (none_kept kept)
