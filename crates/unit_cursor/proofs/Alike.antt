-- What the cursor's coming and going leaves of the words: data, "written", good parity and unused bits as they were. Assumes nothing.
use Prim.Native.Nat.{ℕ, ◌<◌}
use native.Mathlib.Omega.{arith}
use mathlib.Core.Path.{◌≡◌, refl, ◌∙◌}
use mathlib.Core.Logic.{◌≢◌}
use mathlib.Core.Bool.{Bool, true, false}
use lib.ListN.{get_or}
use lib.Seq.{get_or-set_other}
use Rattle.ground_location.specs.Location.{data_of, written_of, proper_of, Unaltered}
use Rattle.ground_location.proofs.Laws.{data_stored, written_stored, good_stored, proper_stored}
use Rattle.ground_words.proofs.Laws.{either_way, stored_location}
use Rattle.unit_cursor.specs.Cursor.{Buffer, cursor_here, cursor_set, marked_at, other_of, bare_at, set_here, cleared_here}

-- what a cursor's coming or going leaves of a word
pub record Alike (w v : ℕ) : Type 0 where
  pub unaltered : Unaltered w v
  pub still_proper : proper_of w ≡ true → proper_of v ≡ true

pub alike_refl : (w : ℕ) → Alike w w
alike_refl w = record { unaltered = record { data_kept = refl; written_kept = refl; still_good = λ h. h }; still_proper = λ h. h }

pub alike_then : (u v w : ℕ) → Alike u v → Alike v w → Alike u w
alike_then u v w p q =
    let f = p.unaltered in
    let g = q.unaltered in
    record {
      unaltered = record { data_kept = g.data_kept ∙ f.data_kept; written_kept = g.written_kept ∙ f.written_kept; still_good = λ h. g.still_good (f.still_good h) };
      still_proper = λ h. q.still_proper (p.still_proper h);
    }

alike_set : (on : Bool) (w : ℕ) → Alike w (cursor_set on w)
alike_set on w =
    let h : data_of w < 256 = omega arith in
    record {
      unaltered =
          record {
            data_kept = data_stored (data_of w) on (written_of w) h;
            written_kept = written_stored (data_of w) on (written_of w) h;
            still_good = λ g. good_stored (data_of w) on (written_of w) h;
          };
      still_proper = λ g. proper_stored (data_of w) on (written_of w) h;
    }

module _ (b : Buffer) (k : ℕ) where
  marked_alike : (on : Bool) (a : ℕ) → Alike (get_or b.words k 0) (get_or (marked_at on a b).words k 0)
  marked_alike on a =
      stored_location (λ v. Alike (get_or b.words k 0) v) b.words a (cursor_set on (get_or b.words a 0)) k (alike_refl (get_or b.words k 0))
      (λ e. rw e (alike_set on (get_or b.words a 0)))

  bare_alike : (a : ℕ) → Alike (get_or b.words k 0) (get_or (bare_at a b).words k 0)
  unfolding bare_at
  bare_alike a =
      either_way (λ (x : Buffer). Alike (get_or b.words k 0) (get_or x.words k 0)) (cursor_here b a)
      (marked_alike false a) (alike_refl (get_or b.words k 0))

  pub cleared_alike : (a : ℕ) → Alike (get_or b.words k 0) (get_or (cleared_here a b).words k 0)
  unfolding cleared_here
  cleared_alike a = marked_alike false a

  marked_others : (on : Bool) (a : ℕ) → k ≢ a → get_or (marked_at on a b).words k 0 ≡ get_or b.words k 0
  marked_others on a n = get_or-set_other b.words a k (cursor_set on (get_or b.words a 0)) 0 n

  bare_others : (a : ℕ) → k ≢ a → get_or (bare_at a b).words k 0 ≡ get_or b.words k 0
  unfolding bare_at
  bare_others a n =
      either_way (λ (x : Buffer). get_or x.words k 0 ≡ get_or b.words k 0) (cursor_here b a)
      (marked_others false a n) refl

  pub cleared_others : (a : ℕ) → k ≢ a → get_or (cleared_here a b).words k 0 ≡ get_or b.words k 0
  unfolding cleared_here
  cleared_others a n = marked_others false a n

module _ (to : ℕ) (b : Buffer) (k : ℕ) where
  pub set_alike : Alike (get_or b.words k 0) (get_or (set_here to b).words k 0)
  unfolding set_here
  set_alike =
      let bare = bare_at (other_of to) b in
      alike_then (get_or b.words k 0) (get_or bare.words k 0) (get_or (marked_at true to bare).words k 0)
      (bare_alike b k (other_of to)) (marked_alike bare k true to)

  pub set_others : k ≢ to → k ≢ other_of to → get_or (set_here to b).words k 0 ≡ get_or b.words k 0
  unfolding set_here
  set_others n o = marked_others (bare_at (other_of to) b) k true to n ∙ bare_others b k (other_of to) o
