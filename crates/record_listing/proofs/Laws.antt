-- STEPS OF A LISTING: one that puts nothing, one that puts a line, and two one behind the other.
use Prim.Native.Nat.{ℕ, ◌+◌, ◌-◌, ◌≤◌, ◌<◌}
use mathlib.Core.Path.{◌≡◌, refl, sym, ap, subst, ◌∙◌}
use mathlib.Core.List.{List, [], ◌++◌, append_assoc, append-nil}
use mathlib.Core.Logic.{inl, inr}
use native.Mathlib.Omega.{arith}
use lib.ListN.{length, take, drop, length-drop}
use lib.Seq.{drop-drop, drop-length}
use Rattle.text_put.proofs.Laws.{put_whole}
use Rattle.record_format.specs.Records.{kind_in, payload_of}
use Rattle.record_intake.specs.Intake.{OpenRecord, open_at, WholeRecord}
use Rattle.record_intake.specs.Printed.{Told}
use Rattle.record_intake.proofs.Laws.{open_none}
use Rattle.record_intake.proofs.Stream.{told_line, told_none, told_on}
use Rattle.record_answer.specs.Answer.{RecordLine, LineAnswered}
use Rattle.record_answer.proofs.Laws.{answer_first, line_short, store_left}
use Rattle.record_listing.specs.Listing.{Feeds, StoreLeft}
use Rattle.record_listing.specs.declared.ListingAt.{ListingAt}
use Rattle.text_pieces.specs.declared.Fed.{Fed}

abbrev pub state : ℕ → ℕ → ListingAt
state number seen = record { number = number; seen = seen }

abbrev pub fed : ℕ → ℕ → Fed
fed used end = record { used = used; end = end }

-- nothing was taken in
pub feeds_none : (l : ListingAt) (kept piece out : List ℕ) → Feeds l kept piece out 0 (fed 0 0) l kept out
feeds_none l kept piece out =
    record {
      text = [];
      put = refl;
      beyond = refl;
      ends = (omega arith, omega arith);
      within = omega arith;
      numbers = omega arith;
      comes = λ s o. record { bytes = s; opened = o; told = λ r t p. p };
    }

-- a record is open still
pub feeds_open : (l : ListingAt) (at seen : ℕ) (kept kept' piece out : List ℕ) → at ≤ length out
    → ((s : List ℕ) → OpenRecord (open_at l.seen kept) kept s → OpenRecord (open_at seen kept') kept' (s ++ piece))
    → Feeds l kept piece out at (fed (length piece) at) (state l.number seen) kept' out
feeds_open l at seen kept kept' piece out room found =
    record {
      text = [];
      put = sym (append-nil (take at out));
      beyond = refl;
      ends = (omega arith, room);
      within = omega arith;
      numbers = omega arith;
      comes =
          λ s o.
          record {
            bytes = s ++ piece;
            opened = found s o;
            told =
                subst (λ (rest : List ℕ). Told RecordLine l.number s piece [] l.number (s ++ piece) rest) (sym (drop-length piece))
                (told_none RecordLine l.number s piece);
          };
    }

-- a record is whole
pub feeds_line : (l : ListingAt) (at used end : ℕ) (kept kept' piece first out out' store store' : List ℕ) → at + 128 ≤ length out
    → length store ≡ 32768
    → 0 < used
    → used ≤ length piece
    → LineAnswered (payload_of (kind_in first) (drop 6 first)) (drop 10 first) l.number store store' out at out' end
    → ((s : List ℕ) → OpenRecord (open_at l.seen kept) kept s → WholeRecord s piece first used)
    → Feeds l kept piece out at (fed used end) (state (l.number + 1) 0) kept' out'
feeds_line l at used end kept kept' piece first out out' store store' room size some within a found =
    let short = line_short (payload_of (kind_in first) (drop 6 first)) (drop 10 first) l.number store store' a.line a.right in
    let put = put_whole out at a.line end out' (omega arith) (a.ends, a.stands) in
    record {
      text = a.line;
      put = put.2;
      beyond = put.3;
      ends = (omega (arith, put.0), omega (arith, put.0));
      within = within;
      numbers = omega arith;
      comes =
          λ s o.
          let w = found s o in
          record {
            bytes = [];
            opened = open_none kept';
            told =
                told_line RecordLine l.number used s piece first a.line w
                (store, (store', (size, answer_first l.number first (s ++ take used piece) store store' a.line w.whole w.told a.right)));
          };
    }

-- a step and then another
pub feeds_on : (l l₁ l₂ : ListingAt) (at used end more last : ℕ) (kept kept₁ kept₂ piece rest out out₁ out₂ : List ℕ)
    → Feeds l kept piece out at (fed used end) l₁ kept₁ out₁
    → rest ≡ drop used piece
    → length out₁ ≡ length out
    → Feeds l₁ kept₁ rest out₁ end (fed more last) l₂ kept₂ out₂
    → Feeds l kept piece out at (fed (used + more) last) l₂ kept₂ out₂
feeds_on l l₁ l₂ at used end more last kept kept₁ kept₂ piece rest out out₁ out₂ p e size q =
    let count : length rest ≡ length piece - used = ap length e ∙ length-drop used piece in
    let far : end + (last - end) ≡ last = omega (arith, q.ends) in
    let later : (x : List ℕ) → drop last x ≡ drop (last - end) (drop end x) =
    λ x. ap (λ (n : ℕ). drop n x) (sym far) ∙ sym (drop-drop (last - end) end x) in
    record {
      text = p.text ++ q.text;
      put = q.put ∙ ap (λ (t : List ℕ). t ++ q.text) p.put ∙ append_assoc (take at out) p.text q.text;
      beyond = q.beyond ∙ later out₁ ∙ ap (drop (last - end)) p.beyond ∙ sym (later out);
      ends = (omega (arith, p.ends, q.ends), omega (arith, q.ends));
      within = omega (arith, p.within, q.within);
      numbers = omega (arith, p.numbers, q.numbers);
      comes =
          λ s o.
          let x = p.comes s o in
          let y = q.comes x.bytes x.opened in
          let told : Told RecordLine l₁.number x.bytes (drop used piece) q.text l₂.number y.bytes (drop (used + more) piece) =
          subst (λ (b : List ℕ). Told RecordLine l₁.number x.bytes (drop used piece) q.text l₂.number y.bytes b) (drop-drop more used piece)
          (subst (λ (b : List ℕ). Told RecordLine l₁.number x.bytes b q.text l₂.number y.bytes (drop more b)) e y.told) in
          record {
            bytes = y.bytes;
            opened = y.opened;
            told =
                told_on RecordLine l.number l₁.number l₂.number s x.bytes y.bytes piece (drop used piece)
                (drop (used + more) piece) p.text q.text x.told told;
          };
    }

-- the store behind two steps
pub left_on : (s s₁ s₂ : List ℕ) → StoreLeft s s₁ → StoreLeft s₁ s₂ → StoreLeft s s₂
left_on s s₁ s₂ p (inr zero) = inr zero
left_on s s₁ s₂ (inl same) (inl still) = inl (still ∙ same)
left_on s s₁ s₂ (inr zero) (inl still) = inr (still ∙ zero)

pub left_line : (number : ℕ) (first store store' out out' : List ℕ) (at end : ℕ) → length store ≡ 32768
    → LineAnswered (payload_of (kind_in first) (drop 6 first)) (drop 10 first) number store store' out at out' end
    → StoreLeft store store'
left_line number first store store' out out' at end size a =
    store_left (payload_of (kind_in first) (drop 6 first)) (drop 10 first) number store store' a.line size a.right

-- the line of a record by its payload, and by bytes that are those of another name
pub answered_whole : (kind number at end : ℕ) (payload whole store store' out out' : List ℕ) → payload ≡ drop 6 whole → kind ≡ kind_in whole
    → LineAnswered (payload_of kind payload) (drop 4 payload) number store store' out at out' end
    → LineAnswered (payload_of (kind_in whole) (drop 6 whole)) (drop 10 whole) number store store' out at out' end
answered_whole kind number at end payload whole store store' out out' e k a =
    let image : drop 4 payload ≡ drop 10 whole = ap (drop 4) e ∙ drop-drop 4 6 whole in
    subst (λ (i : List ℕ). LineAnswered (payload_of (kind_in whole) (drop 6 whole)) i number store store' out at out' end) image
    (subst (λ (p : List ℕ). LineAnswered (payload_of (kind_in whole) p) (drop 4 payload) number store store' out at out' end) e
    (subst (λ (k : ℕ). LineAnswered (payload_of k payload) (drop 4 payload) number store store' out at out' end) k a))

pub answered_first : (number at end : ℕ) (first first' store store' out out' : List ℕ) → first ≡ first'
    → LineAnswered (payload_of (kind_in first) (drop 6 first)) (drop 10 first) number store store' out at out' end
    → LineAnswered (payload_of (kind_in first') (drop 6 first')) (drop 10 first') number store store' out at out' end
answered_first number at end first first' store store' out out' e a =
    subst (λ (f : List ℕ). LineAnswered (payload_of (kind_in f) (drop 6 f)) (drop 10 f) number store store' out at out' end) e a
