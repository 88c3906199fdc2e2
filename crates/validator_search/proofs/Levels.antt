-- The search's argument, with no code in it. Assumes nothing.
use mathlib.Core.Path.{◌≡◌, refl, sym, ap, ◌∙◌, subst}
use mathlib.Core.Logic.{◌⊎◌, inl, inr, ⊎_elim}
use mathlib.Core.Bool.{Bool, true, false, not, not-not}
use mathlib.Core.List.{List}
use Prim.Native.Nat.{ℕ, zero, suc, ◌+◌, ◌*◌, ◌≤◌, ◌<◌}
use native.Mathlib.Nat.{not-suc-le-zero, le_of_suc-le-suc, eq-or-lt_of_le}
use native.Mathlib.Omega.{arith}
use native.Mathlib.Decide.{ℕ_discrete, dec_lt}
use lib.ListN.{length, drop}
use Rattle.validator_walks.specs.Steps.{Step, Leads}
use Rattle.validator_walks.specs.Walks.{Reach, Reached, Counted, Clean, First}
use Rattle.validator_store.specs.Store.{bit_of, tally, entry_at, cleared}
use Rattle.validator_store.proofs.Bits.{bit_of_lt, length_cleared, cleared_bit, cleared_tally, drop_cleared}
use Rattle.validator_search.specs.Invariant.{slot, Plan, Fitted, Grown, Visited, Ready, Opened, Mid, Next, Closed, Entered, Blamed, none, key_at}
use Rattle.validator_search.proofs.Growth.{unchanged}

module _ {F : Type 0} (P : Plan F) (S : Fitted P) where
  -- every place reached is a place
  pub reach_lt : (k p : ℕ) → Reach P.step P.start k p → p < P.places
  reach_lt zero p e = subst (λ (x : ℕ). x < P.places) (sym e) S.start_lt
  reach_lt (suc k) p r = S.led_lt r.0 p (reach_lt k r.0 r.1) r.2

closed_more : {F : Type 0} (P : Plan F) (S : Fitted P) (s s' : List ℕ) (p : ℕ) → p < P.places → ((q : ℕ) → q < P.places → bit_of s q ≡ 1 → bit_of s' q ≡ 1) → Closed P s p → Closed P s' p
closed_more P S s s' p h keeps c = (c.0, λ q l. keeps q (S.led_lt p q h l) (c.1 q l))

module _ {F : Type 0} (P : Plan F) (S : Fitted P) (From : ℕ → Type 0) (s s' : List ℕ) (side : Bool) (rest t t' k key key' c : ℕ)
    (M : Mid P s side (suc rest) t k key c)
    (G : Grown P From s s' side rest t t')
    (led : (q : ℕ) → From q → Leads (P.step (entry_at s (slot (not side) P.base P.cap rest))) q)
    (fate : Closed P s' (entry_at s (slot (not side) P.base P.cap rest)) ⊎ Blamed P key' (entry_at s (slot (not side) P.base P.cap rest)))
    (lower : key' ≤ key)
    (best : key' < none → (p : ℕ) × (f : F) × Reach P.step P.start k p × (P.step p ≡ Step.faulty f) × (key' ≡ key_at (P.address p) (P.number f)))
    (room : 2 * (rest + t') ≤ 2 + tally s' P.twos) where
  turn_next : (j : ℕ) → j < t' → Reach P.step P.start (suc k) (entry_at s' (slot side P.base P.cap j))
  turn_next j h =
      elim (dec_lt j t) [
        | yes l ↦ subst (Reach P.step P.start (suc k)) (sym (G.old j l)) (M.next j l)
        | no n ↦
            (entry_at s (slot (not side) P.base P.cap rest), M.cur rest (omega arith), led _ (G.new j (omega arith) h))
      ]

  -- what was to come in the level, or is the place itself
  turn_cur : (p : ℕ) → Entered P s (not side) (suc rest) p → Closed P s' p ⊎ (Entered P s' (not side) rest p ⊎ Blamed P key' p)
  turn_cur p l =
      elim (dec_lt l.0 rest) [
        | yes h ↦ inr (inl (l.0, h, G.cur l.0 h ∙ l.2))
        | no n ↦
            let e : entry_at s (slot (not side) P.base P.cap rest) ≡ p =
            ap (λ (x : ℕ). entry_at s (slot (not side) P.base P.cap x)) (omega (arith, l.1)) ∙ l.2 in
            ⊎_elim (λ d. inl (subst (Closed P s') e d)) (λ b. inr (inr (subst (Blamed P key') e b))) fate
      ]

  turn_blamed : (p : ℕ) → Blamed P key p → Blamed P key' p
  turn_blamed p b = (b.0, b.1, omega (arith, b.2))

  turn_old : (p : ℕ) → Entered P s side t p → Entered P s' side t' p
  turn_old p l = (l.0, omega (arith, l.1, G.more), G.old l.0 l.1 ∙ l.2)

  turn_three : (p : ℕ) → Closed P s' p ⊎ (Entered P s' (not side) rest p ⊎ Blamed P key' p)
      → Closed P s' p ⊎ (Entered P s' (not side) rest p ⊎ (Blamed P key' p ⊎ Entered P s' side t' p))
  turn_three p d = ⊎_elim inl (λ e. inr (⊎_elim inl (λ b. inr (inl b)) e)) d

  pub turn : Mid P s' side rest t' k key' c
  turn = record {
    long = subst (λ (x : ℕ). P.base + 3 * P.cap ≤ x) (sym G.long) M.long;
    cur = λ j h. subst (Reach P.step P.start k) (sym (G.cur j h)) (M.cur j (omega arith));
    next = turn_next;
    state = λ p b h. ⊎_elim
        (λ o. ⊎_elim
        (λ d. inl (closed_more P S s s' p h G.keeps d))
        (⊎_elim
        (λ l. turn_three p (turn_cur p l))
        (⊎_elim
        (λ a. inr (inr (inl (turn_blamed p a))))
        (λ l. inr (inr (inr (turn_old p l))))))
        (M.state p o h))
        (λ l. inr (inr (inr l)))
        (G.listed p h b);
    sound = λ p b h. ⊎_elim
        (λ o. M.sound p o h)
        (λ l. (suc k, subst (Reach P.step P.start (suc k)) l.2 (turn_next l.0 l.1)))
        (G.listed p h b);
    before = λ j p l r. closed_more P S s s' p (reach_lt P S j p r) G.keeps (M.before j p l r);
    here = λ p r. ⊎_elim
        (λ d. inl (closed_more P S s s' p (reach_lt P S k p r) G.keeps d))
        (⊎_elim (turn_cur p) (λ a. inr (inr (turn_blamed p a))))
        (M.here p r);
    began = G.keeps _ S.start_lt M.began;
    best = best;
    room = room;
    count = omega (arith, G.all, M.count);
  }

-- no key is as high as `none`
module _ {F : Type 0} (P : Plan F) (S : Fitted P) where
  blameless : (p : ℕ) → p < P.places → Blamed P none p → ⊥
  blameless p h b = omega (arith, b.2, S.number_lt p b.0 h b.1, S.address_lt p h)

  module _ (s : List ℕ) (side : Bool) (t k c : ℕ) (M : Mid P s side zero t k none c) where
    -- after a level without a fault, whatever is reached in k steps was gone on from
    gone_on_lem : (p : ℕ) → Reach P.step P.start k p → Closed P s p
    gone_on_lem p r =
        ⊎_elim (λ d. d)
        (⊎_elim (λ l. absurd (not-suc-le-zero l.1)) (λ b. absurd (blameless p (reach_lt P S k p r) b)))
        (M.here p r)

    flip_state : (p : ℕ) → bit_of s p ≡ 1 → p < P.places → Closed P s p ⊎ Entered P s side t p
    flip_state p b h =
        ⊎_elim inl
        (⊎_elim (λ l. absurd (not-suc-le-zero l.1))
        (⊎_elim (λ a. absurd (blameless p h a)) inr))
        (M.state p b h)

    -- the next level begins
    pub flip : Mid P s (not side) t zero (suc k) none (c + t)
    flip = record {
      long = M.long;
      cur = λ j h. rw not-not (M.next j h);
      next = λ j h. absurd (not-suc-le-zero h);
      state = λ p b h. ⊎_elim inl (λ l. inr (inl (rw not-not l))) (flip_state p b h);
      sound = M.sound;
      before = λ j p l r. ⊎_elim
          (λ e. gone_on_lem p (subst (λ (x : ℕ). Reach P.step P.start x p) e r))
          (λ h. M.before j p h r)
          (eq-or-lt_of_le (le_of_suc-le-suc l));
      here = λ p r.
          ⊎_elim inl (λ l. inr (inl (rw not-not l)))
          (flip_state p ((gone_on_lem r.0 r.1).1 p r.2) (reach_lt P S (suc k) p r));
      began = M.began;
      best = λ h. absurd (not_lt_self none h);
      room = omega (arith, M.room);
      count = omega (arith, M.count);
    }
      where
        not_lt_self : (n : ℕ) → n < n → ⊥
        not_lt_self n h = omega arith

    -- the search is over where the level left nothing
    module _ (e : t ≡ 0) where
      over : (p : ℕ) → bit_of s p ≡ 1 → p < P.places → Closed P s p
      over p b h = ⊎_elim (λ d. d) (λ l. omega (arith, l.1)) (flip_state p b h)

      all_marked : (j p : ℕ) → Reach P.step P.start j p → bit_of s p ≡ 1
      all_marked zero p r = subst (λ (x : ℕ). bit_of s x ≡ 1) (sym r) M.began
      all_marked (suc j) p r = (over r.0 (all_marked j r.0 r.1) (reach_lt P S j r.0 r.1)).1 p r.2

      counted : (n : ℕ) → n ≤ P.places → Counted (Reached P.step P.start) n (tally s n)
      unfolding tally
      counted zero h = Counted.none
      counted (suc n) h =
          elim (ℕ_discrete (bit_of s n) 1) [
            | yes b ↦ rw (b, one_more (tally s n)) (Counted.take (M.sound n b (omega arith)) (counted n (omega arith)))
            | no z ↦
                let b : bit_of s n ≡ 0 = omega (arith, bit_of_lt s n) in
                rw (b, nothing_more (tally s n)) (Counted.skip (λ r. z (all_marked r.0 n r.1)) (counted n (omega arith)))
          ]
        where
          one_more : (a : ℕ) → a + 1 ≡ suc a
          one_more a = omega arith

          nothing_more : (a : ℕ) → a + 0 ≡ a
          nothing_more a = omega arith

      pub clean : Clean P.step P.start (λ i. i) P.places c
      clean = record {
        sound = λ j p n r f. (over p (all_marked j p r) (reach_lt P S j p r)).0 n f;
        count = subst (Counted (Reached P.step P.start) P.places) (omega (arith, M.count)) (counted P.places (omega arith));
      }

  -- a fault ends the search, where a fault is known by its number
  module _ (known : (f g : F) → P.number f ≡ P.number g → f ≡ g) (s : List ℕ) (side : Bool) (t k key c : ℕ) (M : Mid P s side zero t k key c)
      (low : key < none) where
    pub first : (f : F) (a : ℕ) → P.number f < 16 → key ≡ key_at a (P.number f) → First P.step P.start P.number P.address f a k
    first f a h e =
        let w = M.best low in
        let l = S.number_lt w.0 w.1 (reach_lt P S k w.0 w.2) w.3 in
        let same : P.number w.1 ≡ P.number f = omega (arith, w.4) in
        record {
          met = w.0;
          here = w.2;
          faulty = w.3 ∙ ap Step.faulty (known w.1 f same);
          at = omega (arith, w.4);
          earlier = λ j p g lt r x. (M.before j p lt r).0 g x;
          lowest = λ p g r x. ⊎_elim
              (λ d. absurd (d.0 g x))
              (⊎_elim (λ y. absurd (not-suc-le-zero y.1))
              (λ b.
              let same-g : P.number b.0 ≡ P.number g = ap P.number (one_fault (sym b.1 ∙ x)) in
              let small = S.number_lt p g (reach_lt P S k p r) x in
              elim (dec_lt a (P.address p)) [
                | yes q ↦ inl q
                | no q ↦ inr (omega (arith, b.2), omega (arith, b.2))
              ]))
              (M.here p r);
        }
      where
        one_fault : {x y : F} → ◌≡◌ {A = Step F ℕ} (Step.faulty x) (Step.faulty y) → x ≡ y
        one_fault q = cc

-- a turn as the code takes it: p is the last place left of the level
module _ {F : Type 0} (P : Plan F) (S : Fitted P) (s : List ℕ) (side : Bool) (rest t k key c p : ℕ)
    (M : Mid P s side (suc rest) t k key c) (e : entry_at s (slot (not side) P.base P.cap rest) ≡ p) (low : key ≤ none) where
  here_p : Reach P.step P.start k p
  here_p = subst (Reach P.step P.start k) e (M.cur rest (omega arith))

  pub ready : Ready P s rest t p
  ready = record { place = reach_lt P S k p here_p; long = M.long; room = omega (arith, M.room) }

  pub grew : (s' : List ℕ) (t' : ℕ) → Opened P p s s' side rest t t' → Next P s s' side rest t' k key c
  grew s' t' O = record {
    mid = turn P S (Leads (P.step p)) s s' side rest t t' k key key c M O.grown
        (λ q l. subst (λ (x : ℕ). Leads (P.step x) q) (sym e) l)
        (inl (subst (Closed P s') (sym e) (O.sound, O.grown.led)))
        (omega arith)
        M.best
        (omega (arith, M.room, O.room));
    low = low;
    long = O.grown.long;
    tail = O.grown.tail;
  }

  pub blamed : (f : F) (key' : ℕ) → P.step p ≡ Step.faulty f → key' ≤ key → key' ≤ key_at (P.address p) (P.number f)
      → (key' ≡ key_at (P.address p) (P.number f)) ⊎ (key' ≡ key)
      → Next P s s side rest t k key' c
  blamed f key' e' l₁ l₂ d = record {
    mid = turn P S (λ x. ⊥) s s side rest t t k key key' c M (unchanged P (λ x. ⊥) s side rest t (λ x z. absurd z))
        (λ q z. absurd z)
        (inr (subst (Blamed P key') (sym e) (f, e', l₂)))
        l₁
        (λ h. ⊎_elim (λ q. (p, f, here_p, e', q)) (λ q. let b = M.best (omega arith) in (b.0, b.1, b.2, b.3, q ∙ b.4)) d)
        (omega (arith, M.room));
    low = omega arith;
    long = refl;
    tail = refl;
  }

-- the first level: the start, on the low stack
module _ {F : Type 0} (P : Plan F) (S : Fitted P) (s s₁ : List ℕ) (n : ℕ) (long : P.base + 3 * P.cap ≤ length s)
    (blank : (q : ℕ) → q < P.places → bit_of s q ≡ 0) (none_yet : tally s P.places ≡ 0) (X : Visited P P.start s s₁ false 0 0 n) where
  begin_listed : (p : ℕ) → bit_of s₁ p ≡ 1 → p < P.places → Entered P s₁ false n p
  begin_listed p b h = ⊎_elim (λ o. absurd (omega (arith, blank p h))) (λ l. l) (X.grown.listed p h b)

  begin_start : (j : ℕ) → j < n → entry_at s₁ (slot false P.base P.cap j) ≡ P.start
  begin_start j h = X.grown.new j (omega arith) h

  pub begin : Mid P s₁ true n 0 0 none n
  begin = record {
    long = omega (arith, X.grown.long);
    cur = begin_start;
    next = λ j h. absurd (not-suc-le-zero h);
    state = λ p b h. inr (inl (begin_listed p b h));
    sound = λ p b h. let l = begin_listed p b h in (0, sym l.2 ∙ begin_start l.0 l.1);
    before = λ j p h. absurd (not-suc-le-zero h);
    here = λ p r. inr (inl (begin_listed p (X.grown.led p r) (subst (λ (x : ℕ). x < P.places) (sym r) S.start_lt)));
    began = X.grown.led P.start refl;
    best = λ h. absurd (omega arith);
    room = omega (arith, X.one);
    count = omega (arith, X.grown.all);
  }

-- the store as it is lent, cleared, and with the start marked
module _ {F : Type 0} (P : Plan F) (S : Fitted P) (s s₀ s₁ : List ℕ) (n : ℕ) (long : P.base + 3 * P.cap ≤ length s)
    (e : s₀ ≡ cleared s (P.base + 3 * P.cap)) (X : Visited P P.start s₀ s₁ false 0 0 n) where
  pub begun : Next P s s₁ true n 0 0 none n
  begun =
      let top : ℕ = P.base + 3 * P.cap in
      let same : length s₀ ≡ length s = ap length e ∙ length_cleared s top in
      record {
        mid = begin P S s₀ s₁ n (omega arith)
            (λ q h. ap (λ (l : List ℕ). bit_of l q) e ∙ cleared_bit s top q (omega (arith, S.bits)))
            (ap (λ (l : List ℕ). tally l P.places) e ∙ cleared_tally s top P.places (omega (arith, S.bits)))
            X;
        low = omega arith;
        long = X.grown.long ∙ same;
        tail = X.grown.tail ∙ ap (drop top) e ∙ drop_cleared s top long;
      }
