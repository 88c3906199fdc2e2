-- What a visit does to the store, as the search's `Grown`. Assumes nothing.
use mathlib.Core.Path.{◌≡◌, refl, sym, ap, ◌∙◌, subst}
use mathlib.Core.Logic.{◌⊎◌, inl, inr, ⊎_elim}
use mathlib.Core.Bool.{Bool, true, false, not}
use mathlib.Core.List.{List}
use Prim.Native.Nat.{ℕ, ◌+◌, ◌*◌, ◌/◌, ◌≤◌, ◌<◌}
use native.Mathlib.Omega.{arith}
use native.Mathlib.Decide.{ℕ_discrete, dec_lt}
use lib.ListN.{length, drop}
use Rattle.validator_walks.specs.Steps.{Step, Leads}
use Rattle.validator_store.specs.Store.{bit_of, marked, tally, entry_at, saved}
use Rattle.validator_store.proofs.Bits.{marked_same, marked_other, marked_keeps, tally_below, tally_above, tally_le, length_marked, length_saved, drop_marked, drop_saved, bit_of_saved, tally_saved, entry_marked, entry_saved, entry_saved_other, tally_lt}
use Rattle.validator_search.specs.Invariant.{slot, Plan, Fitted, Grown, Visited, Ready, Opened}

-- an entry lies behind the bits and before the end
pub slot_low : (side : Bool) (base cap j : ℕ) → base ≤ slot side base cap j
slot_low true base cap j = omega arith
slot_low false base cap j = omega arith

pub slot_high : (side : Bool) (base cap j : ℕ) → j < cap → slot side base cap j + 3 ≤ base + 3 * cap
slot_high true base cap j h = omega arith
slot_high false base cap j h = omega arith

-- two entries of one stack, and two of both while the stacks do not meet
slot_apart : (side : Bool) (base cap i j : ℕ) → i < j → j < cap → (slot side base cap i + 3 ≤ slot side base cap j) ⊎ (slot side base cap j + 3 ≤ slot side base cap i)
slot_apart true base cap i j h k = inl (omega arith)
slot_apart false base cap i j h k = inr (omega arith)

slot_across : (side : Bool) (base cap i j : ℕ) → i + j + 1 < cap → (slot (not side) base cap i + 3 ≤ slot side base cap j) ⊎ (slot side base cap j + 3 ≤ slot (not side) base cap i)
slot_across true base cap i j h = inr (omega arith)
slot_across false base cap i j h = inl (omega arith)

-- nothing grows where all that is led to is marked
pub unchanged : {F : Type 0} (P : Plan F) (From : ℕ → Type 0) (s : List ℕ) (side : Bool) (rest t : ℕ) → ((q : ℕ) → From q → bit_of s q ≡ 1) → Grown P From s s side rest t t
unchanged P From s side rest t led = record {
  long = refl;
  tail = refl;
  more = omega arith;
  cur = λ j h. refl;
  old = λ j h. refl;
  new = λ j h l. absurd (omega arith);
  keeps = λ x l h. h;
  listed = λ x l h. inl h;
  led = led;
  all = refl;
  twos_more = omega arith;
}

pub still : {F : Type 0} (P : Plan F) (q : ℕ) (s : List ℕ) (side : Bool) (rest t : ℕ) → bit_of s q ≡ 1 → Visited P q s s side rest t t
still P q s side rest t b = record {
  grown = unchanged P (λ x. x ≡ q) s side rest t (λ x e. ap (bit_of s) e ∙ b);
  one = omega arith;
  twos = λ h. refl;
}

module _ {F : Type 0} (P : Plan F) (S : Fitted P) (q : ℕ) (s : List ℕ) (side : Bool) (rest t : ℕ)
    (place : q < P.places) (free : bit_of s q ≡ 0) (long : P.base + 3 * P.cap ≤ length s) (room : rest + t < P.cap) where
  at : ℕ
  at = slot side P.base P.cap t

  to : List ℕ
  to = saved (marked s q) at q

  inside : q < 8 * length s
  inside = omega (arith, S.bits)

  low : q / 8 < at
  unfolding at
  low = omega (arith, S.bits, slot_low side P.base P.cap t)

  high : at + 3 ≤ P.base + 3 * P.cap
  unfolding at
  high = slot_high side P.base P.cap t (omega arith)

  bit_to : (x : ℕ) → x < P.places → bit_of to x ≡ bit_of (marked s q) x
  unfolding to at
  bit_to x h = bit_of_saved (marked s q) at q x (omega (arith, S.bits, slot_low side P.base P.cap t))

  entry_to : (i : ℕ) → q / 8 < i → (i + 3 ≤ at) ⊎ (at + 3 ≤ i) → entry_at to i ≡ entry_at s i
  unfolding to
  entry_to i l h = entry_saved_other (marked s q) at q i h ∙ entry_marked s q i l

  new_entry : entry_at to at ≡ q
  unfolding to
  new_entry = entry_saved (marked s q) at q (rw length_marked (omega (arith, high))) (omega (arith, S.small))

  tally_to : (n : ℕ) → n ≤ P.places → q < n → tally to n ≡ tally s n + 1
  unfolding to at
  tally_to n h l = tally_saved (marked s q) at q n (omega (arith, S.bits, slot_low side P.base P.cap t)) ∙ tally_above s q inside free n l

  tally_same : (n : ℕ) → n ≤ P.places → n ≤ q → tally to n ≡ tally s n
  unfolding to at
  tally_same n h l = tally_saved (marked s q) at q n (omega (arith, S.bits, slot_low side P.base P.cap t)) ∙ tally_below s q inside free n l

  long_to : length to ≡ length s
  unfolding to
  long_to = length_saved _ _ _ ∙ length_marked _ _

  tail_to : drop (P.base + 3 * P.cap) to ≡ drop (P.base + 3 * P.cap) s
  unfolding to
  tail_to = drop_saved (marked s q) at q (P.base + 3 * P.cap) high ∙ drop_marked s q (P.base + 3 * P.cap) (omega (arith, low, high))

  behind : (x : Bool) (j : ℕ) → q / 8 < slot x P.base P.cap j
  behind x j = omega (arith, S.bits, slot_low x P.base P.cap j)

  cur_apart : (j : ℕ) → j < rest → (slot (not side) P.base P.cap j + 3 ≤ at) ⊎ (at + 3 ≤ slot (not side) P.base P.cap j)
  unfolding at
  cur_apart j h = slot_across side P.base P.cap j t (omega arith)

  old_apart : (j : ℕ) → j < t → (slot side P.base P.cap j + 3 ≤ at) ⊎ (at + 3 ≤ slot side P.base P.cap j)
  unfolding at
  old_apart j h = slot_apart side P.base P.cap j t h (omega arith)

  new_at : entry_at to (slot side P.base P.cap t) ≡ q
  unfolding at
  new_at = new_entry

  visited_to : Visited P q s to side rest t (t + 1)
  visited_to = record {
    grown = record {
      long = long_to;
      tail = tail_to;
      more = omega arith;
      cur = λ j h. entry_to (slot (not side) P.base P.cap j) (behind (not side) j) (cur_apart j h);
      old = λ j h. entry_to (slot side P.base P.cap j) (behind side j) (old_apart j h);
      new = λ j h l. subst (λ (x : ℕ). entry_at to (slot side P.base P.cap x) ≡ q) (omega arith) new_at;
      keeps = λ x l h. bit_to x l ∙ marked_keeps s q inside free x h;
      listed = λ x l h.
          elim (ℕ_discrete x q) [
            | yes e ↦ inr (t, omega arith, new_at ∙ sym e)
            | no n ↦ inl (sym (bit_to x l ∙ marked_other s q inside free x n) ∙ h)
          ];
      led = λ x e. ap (bit_of to) e ∙ bit_to q place ∙ marked_same s q inside free;
      all = omega (arith, tally_to P.places (omega arith) place);
      twos_more =
          elim (dec_lt q P.twos) [
            | yes l ↦ omega (arith, tally_to P.twos S.twos_le l)
            | no n ↦ omega (arith, tally_same P.twos S.twos_le (omega arith))
          ];
    };
    one = omega arith;
    twos = λ h. omega (arith, tally_to P.twos S.twos_le h);
  }

  pub visited : Visited P q s (saved (marked s q) (slot side P.base P.cap t) q) side rest t (t + 1)
  unfolding to at
  visited = visited_to

-- one growth after another
module _ {F : Type 0} (P : Plan F) (G H : ℕ → Type 0) (s s₁ s₂ : List ℕ) (side : Bool) (rest t t₁ t₂ : ℕ)
    (placed : (q : ℕ) → G q → q < P.places)
    (A : Grown P G s s₁ side rest t t₁) (B : Grown P H s₁ s₂ side rest t₁ t₂) where
  pub join : Grown P (λ x. G x ⊎ H x) s s₂ side rest t t₂
  join = record {
    long = B.long ∙ A.long;
    tail = B.tail ∙ A.tail;
    more = omega (arith, A.more, B.more);
    cur = λ j h. B.cur j h ∙ A.cur j h;
    old = λ j h. B.old j (omega (arith, A.more)) ∙ A.old j h;
    new = λ j h l.
        elim (dec_lt j t₁) [
          | yes u ↦ inl (subst G (sym (B.old j u)) (A.new j h u))
          | no u ↦ inr (B.new j (omega arith) l)
        ];
    keeps = λ q l h. B.keeps q l (A.keeps q l h);
    listed = λ q l h.
        ⊎_elim
        (λ o. ⊎_elim inl (λ x. inr (x.0, omega (arith, x.1, B.more), B.old x.0 x.1 ∙ x.2)) (A.listed q l o))
        inr
        (B.listed q l h);
    led = λ q. ⊎_elim (λ f. B.keeps q (placed q f) (A.led q f)) (B.led q);
    all = omega (arith, A.all, B.all);
    twos_more = omega (arith, A.twos_more, B.twos_more);
  }

-- a place gone on from, by the kind of its step
module _ {F : Type 0} (P : Plan F) (p : ℕ) (s : List ℕ) (side : Bool) (rest t : ℕ) where
  pub opened_stops : P.step p ≡ Step.stops → Opened P p s s side rest t t
  opened_stops e = record {
    sound = λ n f. let z : ◌≡◌ {A = ℕ} 0 1 = cc in omega arith;
    grown = unchanged P (Leads (P.step p)) s side rest t (λ x l. absurd (subst (λ (y : Step F ℕ). Leads y x) e l));
    room = omega arith;
  }

  pub opened_to : (q : ℕ) (s₁ : List ℕ) (t₁ : ℕ) → P.step p ≡ Step.to q → Visited P q s s₁ side rest t t₁ → Opened P p s s₁ side rest t t₁
  opened_to q s₁ t₁ e X = record {
    sound = λ n f. let z : ◌≡◌ {A = ℕ} 0 1 = cc in omega arith;
    grown = subst (λ (x : Step F ℕ). Grown P (Leads x) s s₁ side rest t t₁) (sym e) X.grown;
    room = omega (arith, X.one, X.grown.twos_more);
  }

  pub opened_either : (S : Fitted P) (a b : ℕ) (s₁ s₂ : List ℕ) (t₁ t₂ : ℕ) → p < P.places → P.step p ≡ Step.either a b
      → Visited P a s s₁ side rest t t₁ → Visited P b s₁ s₂ side rest t₁ t₂ → Opened P p s s₂ side rest t t₂
  opened_either S a b s₁ s₂ t₁ t₂ h e X Y =
      let l = S.two_lt p a b h e in
      record {
        sound = λ n f. let z : ◌≡◌ {A = ℕ} 0 1 = cc in omega arith;
        grown = subst (λ (x : Step F ℕ). Grown P (Leads x) s s₂ side rest t t₂) (sym e)
            (join P (λ x. x ≡ a) (λ x. x ≡ b) s s₁ s₂ side rest t t₁ t₂ (λ q f. omega (arith, l.0, S.twos_le)) X.grown Y.grown);
        room = omega (arith, X.one, Y.one, X.twos l.0, Y.twos l.1);
      }

-- there is room for a visit
module _ {F : Type 0} (P : Plan F) (S : Fitted P) (p : ℕ) (s : List ℕ) (side : Bool) (rest t : ℕ) (R : Ready P s rest t p) where
  pub room_one : rest + t < P.cap
  room_one = omega (arith, R.room, tally_le s P.twos, S.stacks)

  pub room_two : (a b : ℕ) (s₁ : List ℕ) (t₁ : ℕ) → P.step p ≡ Step.either a b → Visited P a s s₁ side rest t t₁ → bit_of s₁ b ≡ 0 → rest + t₁ < P.cap
  room_two a b s₁ t₁ e X free =
      let l = S.two_lt p a b R.place e in
      omega (
        arith,
        R.room,
        S.stacks,
        X.one,
        X.twos l.0,
        tally_lt s₁ b P.twos (omega (arith, l.1, S.twos_le, S.bits, R.long, X.grown.long)) free l.1,
      )
