-- THE WHOLE of a listing: whatever the pieces, what is given out is what is printed for all their bytes; and an input has one text.
use Prim.Native.Nat.{ℕ, ◌<◌, min}
use mathlib.Core.Path.{◌≡◌, sym, ap, subst, ◌∙◌}
use mathlib.Core.List.{List, [], ◌∷◌, ◌++◌, append_assoc}
use native.Mathlib.Omega.{arith}
use native.Mathlib.Decide.{dec_lt}
use borrow.Author.Tests.{ne_eqb, lt-ltb}
use lib.ListN.{length, take, drop}
use lib.Seq.{take-take}
use Rattle.record_format.specs.Records.{kind_in, length_in, extent_of, header_of}
use Rattle.record_format.specs.declared.Header.{Header}
use Rattle.record_format.specs.declared.Header.TheVariants.{Record, Cut}
use Rattle.record_format.proofs.First.{header_first, header_whole}
use Rattle.record_intake.specs.Intake.{needed_of, OpenRecord, open_at}
use Rattle.record_intake.specs.Printed.{Printed, nothing, headless, cut, Told}
use Rattle.record_intake.proofs.Laws.{need_six, open_none}
use Rattle.record_intake.proofs.Stream.{told_on, told_joined, told_all, one_text}
use Rattle.record_answer.specs.Answer.{RecordLine}
use Rattle.record_answer.proofs.Laws.{one_line}
use Rattle.record_listing.specs.Listing.{PrintedFor, last_line, Feeds}
use Rattle.record_listing.specs.Pieces.{bytes_of, Calls, done, empty, fed, Standing, closing_of}
use Rattle.record_listing.specs.declared.ListingAt.{ListingAt}
use Rattle.text_pieces.specs.declared.Fed.{Fed}
use Rattle.record_listing.proofs.Laws.{state}

-- the header of an open record is among what is kept of it
open_header : (seen : ℕ) (kept s : List ℕ) → OpenRecord seen kept s → header_of (take seen kept) ≡ header_of s
open_header seen kept s o =
    let need : ℕ = needed_of s in
    let six = need_six s in
    let same : take 6 (take seen kept) ≡ take 6 s =
    elim (dec_lt seen 6) [
      | yes h ↦
          let few : min seen need ≡ seen = omega arith in
          ap (λ (n : ℕ). take 6 (take n kept)) (sym few) ∙ ap (take 6) o.first ∙ take-take 6 need s six
      | no h ↦
          take-take 6 seen kept (omega arith)
          ∙ sym (take-take 6 (min seen need) kept (omega arith))
          ∙ ap (take 6) o.first
          ∙ take-take 6 need s six
    ] in
    sym (header_first (take seen kept)) ∙ ap header_of same ∙ header_first s

-- what is put where the input ends is what is printed for the open record
last_printed : (number : ℕ) (s : List ℕ) → length s < extent_of s → Printed RecordLine number s (last_line number (header_of s))
last_printed number [] more = nothing number
last_printed number (x ∷ xs) more =
    let s : List ℕ = x ∷ xs in
    elim (dec_lt (length s) 6) [
      | yes short ↦
          let head : header_of s ≡ Cut = simp (ne_eqb (length s) 0 (λ e. omega arith), lt-ltb (length s) 6 short) in
          subst (λ (h : Header). Printed RecordLine number s (last_line number h)) (sym head)
          (headless number s (omega arith) short)
      | no long ↦
          let head : header_of s ≡ Record (length_in s) (kind_in s) = header_whole s (omega arith) in
          subst (λ (h : Header). Printed RecordLine number s (last_line number h)) (sym head)
          (cut number s (omega arith) more)
    ]

pub closing_printed : (l : ListingAt) (kept s : List ℕ) → OpenRecord (open_at l.seen kept) kept s
    → Printed RecordLine l.number s (closing_of l kept)
closing_printed l kept s o =
    subst (λ (h : Header). Printed RecordLine l.number s (last_line l.number h)) (sym (open_header (open_at l.seen kept) kept s o))
    (last_printed l.number s o.more)

-- a listing stands at the beginning, before a piece that comes, and behind a call
pub standing_first : (kept : List ℕ) → Standing 1 [] [] [] [] (state 1 0) kept
standing_first kept = record { bytes = []; opened = open_none kept; told = λ r t p. p }

pub standing_more : (n : ℕ) (s input piece text kept : List ℕ) (l : ListingAt) → Standing n s input [] text l kept
    → Standing n s (input ++ piece) piece text l kept
standing_more n s input piece text kept l x =
    record {
      bytes = x.bytes;
      opened = x.opened;
      told =
          λ r t p.
          subst (λ (i : List ℕ). Printed RecordLine n (s ++ i) (text ++ t)) (sym (append_assoc input piece r)) (x.told (piece ++ r) t p);
    }

pub standing_fed : (n : ℕ) (s input rest text kept kept' out out' : List ℕ) (l l' : ListingAt) (f : Fed) → Standing n s input rest text l kept
    → Feeds l kept rest out 0 f l' kept' out'
    → Standing n s input (drop f.used rest) (text ++ take f.end out') l' kept'
standing_fed n s input rest text kept kept' out out' l l' f x feeds =
    let y = feeds.comes x.bytes x.opened in
    record {
      bytes = y.bytes;
      opened = y.opened;
      told =
          subst (λ (t : List ℕ). Told RecordLine n s input (text ++ t) l'.number y.bytes (drop f.used rest)) (sym feeds.put)
          (told_on RecordLine n l.number l'.number s x.bytes y.bytes input rest (drop f.used rest) text feeds.text
          x.told y.told);
    }

-- AT ANY TIME: what was given out, and what `close` would put, is what is printed for the input so far
pub standing_closed : (n : ℕ) (s input text kept : List ℕ) (l : ListingAt) → Standing n s input [] text l kept
    → Printed RecordLine n (s ++ input) (text ++ closing_of l kept)
standing_closed n s input text kept l x =
    told_all RecordLine n l.number s x.bytes input text (closing_of l kept) x.told (closing_printed l kept x.bytes x.opened)

-- a piece and then others is all of them joined
standing_calls : {l l' : ListingAt} {kept kept' text : List ℕ} {pieces : List (List ℕ)} → Calls l kept pieces text l' kept' → (s : List ℕ)
    → OpenRecord (open_at l.seen kept) kept s
    → Standing l.number s (bytes_of pieces) [] text l' kept'
standing_calls (done _ _) s o = record { bytes = s; opened = o; told = λ r t p. p }
standing_calls (empty l l' kept kept' text pieces rest) s o = standing_calls rest s o
standing_calls (fed l l₁ l' kept kept₁ kept' piece out out₁ text pieces f feeds rest) s o =
    let x = feeds.comes s o in
    let y = standing_calls rest x.bytes x.opened in
    record {
      bytes = y.bytes;
      opened = y.opened;
      told =
          subst (λ (t : List ℕ). Told RecordLine l.number s (piece ++ bytes_of pieces) (t ++ text) l'.number y.bytes []) (sym feeds.put)
          (told_joined RecordLine l.number l₁.number l'.number s x.bytes y.bytes piece (bytes_of pieces)
          (drop f.used piece) feeds.text text x.told y.told);
    }

-- WHATEVER THE PIECES: what was given out, and what `close` puts, is what is printed for all bytes that were taken in
pub whatever_the_pieces : (l : ListingAt) (kept kept' text : List ℕ) (pieces : List (List ℕ)) → Calls (state 1 0) kept pieces text l kept'
    → PrintedFor (bytes_of pieces) (text ++ closing_of l kept')
whatever_the_pieces l kept kept' text pieces calls =
    standing_closed 1 [] (bytes_of pieces) text kept' l (standing_calls calls [] (open_none kept))

-- AN INPUT HAS ONE TEXT
pub one_listing : (input t u : List ℕ) → PrintedFor input t → PrintedFor input u → t ≡ u
one_listing input t u p q = one_text RecordLine one_line 1 input t u p q

-- FEEDING A PIECE AND THEN ANOTHER IS FEEDING THE TWO JOINED, from any state: pieces of the same bytes come to the same text
pub same_text : (l l₁ l₂ : ListingAt) (kept kept₁ kept₂ s t u : List ℕ) (a b : List (List ℕ)) → OpenRecord (open_at l.seen kept) kept s
    → bytes_of a ≡ bytes_of b
    → Calls l kept a t l₁ kept₁
    → Calls l kept b u l₂ kept₂
    → t ++ closing_of l₁ kept₁ ≡ u ++ closing_of l₂ kept₂
same_text l l₁ l₂ kept kept₁ kept₂ s t u a b o e p q =
    one_text RecordLine one_line l.number (s ++ bytes_of b) (t ++ closing_of l₁ kept₁) (u ++ closing_of l₂ kept₂)
    (subst (λ (i : List ℕ). Printed RecordLine l.number (s ++ i) (t ++ closing_of l₁ kept₁)) e
    (standing_closed l.number s (bytes_of a) t kept₁ l₁ (standing_calls p s o)))
    (standing_closed l.number s (bytes_of b) u kept₂ l₂ (standing_calls q s o))
