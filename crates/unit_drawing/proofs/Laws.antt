-- Laws of what a step draws: a sight over one item, and over a code with more behind it; that cursors are not counted; that the item hit is
-- the last that is drawn; and that no sight hits none.
use Prim.Native.Nat.{ℕ, ◌-◌}
use Rattle.std.specs.Prelude.{None, Option, Some}
use mathlib.Core.Path.{◌≡◌, refl, ap, sym, ◌∙◌}
use mathlib.Core.Bool.{Bool, true, false, cond, ◌&&◌}
use mathlib.Core.List.{List, [], ◌∷◌, ◌++◌, append-nil}
use native.Mathlib.Omega.{arith}
use lib.Dec.{eqb}
use Rattle.unit_beam.specs.declared.Beam.{Beam}
use Rattle.unit_beam.specs.declared.CharacterSize.{CharacterSize}
use Rattle.ground_setup.specs.declared.Size.{Size}
use Rattle.unit_items.specs.declared.Item.{Item}
use Rattle.unit_motion.specs.declared.Motion.{Motion}
use Rattle.unit_motion.specs.declared.Motion.TheVariants.{Still, To, Codes}
use Rattle.unit_motion.specs.Codes.{draws, after_code}
use Rattle.unit_drawing.specs.declared.Hit.{Hit}
use Rattle.unit_drawing.specs.Drawing.{Stroke, stroke, character_at, cursor_at, has_cursor, code_strokes, codes_strokes, strokes_of, counts, item_address, falls, left, upto, hit, hit_in}

one_item : (t : Bool) (i : Item) → (i ∷ cond t [] []) ≡ i ∷ []
one_item true i = refl
one_item false i = refl

-- an item alone is drawn, whatever the sight
pub upto_one : (sight : ℕ) (s : Stroke) → upto sight (s ∷ []) ≡ s.item ∷ []
unfolding upto
upto_one sight s = one_item (falls sight s.item) s.item

split : (t : Bool) (i : Item) (js ks : List Item) → (i ∷ cond t [] (js ++ ks)) ≡ (i ∷ cond t [] js) ++ cond t [] ks
split true i js ks = refl
split false i js ks = refl

module _ (size : CharacterSize) (code : ℕ) (beam end : Beam) (at : ℕ) where
  abbrev parts : Bool → Bool → List Stroke
  parts d k = cond d (stroke (character_at size code beam at) end ∷ []) [] ++ cond k (stroke (cursor_at size code beam at) end ∷ []) []

  upto_parts : (d k : Bool) (sight : ℕ) (ss : List Stroke) → upto sight (parts d k ++ ss) ≡ upto sight (parts d k) ++ cond (d && eqb sight 1) [] (upto (cond d (sight - 1) sight) ss)
  unfolding upto
  upto_parts true true sight ss = split (eqb sight 1) (character_at size code beam at) (cursor_at size code beam at ∷ []) (upto (sight - 1) ss)
  upto_parts true false sight ss = split (eqb sight 1) (character_at size code beam at) [] (upto (sight - 1) ss)
  upto_parts false true sight ss = refl
  upto_parts false false sight ss = refl

  hit_parts : (d k : Bool) (sight : ℕ) (ss : List Stroke) → hit_in sight (parts d k ++ ss) ≡ cond d (cond (eqb sight 1) (Some (hit at end)) (hit_in (sight - 1) ss)) (hit_in sight ss)
  unfolding hit_in
  hit_parts true true sight ss = refl
  hit_parts true false sight ss = refl
  hit_parts false true sight ss = refl
  hit_parts false false sight ss = refl

module _ (size : CharacterSize) (code : ℕ) (marked : Bool) (beam : Beam) (at sight : ℕ) where
  -- what is behind a code is drawn unless the sight falls on its character, with one less to count
  pub upto_code : (ss : List Stroke) → upto sight (code_strokes size code marked beam at ++ ss) ≡ upto sight (code_strokes size code marked beam at) ++ cond (draws code && eqb sight 1) [] (upto (cond (draws code) (sight - 1) sight) ss)
  unfolding code_strokes
  upto_code ss = upto_parts size code beam (after_code size code beam) at (draws code) (has_cursor marked code) sight ss

  -- a sight falls on a code's character or on what is behind it
  pub hit_behind : (ss : List Stroke) → hit_in sight (code_strokes size code marked beam at ++ ss) ≡ cond (draws code) (cond (eqb sight 1) (Some (hit at (after_code size code beam))) (hit_in (sight - 1) ss)) (hit_in sight ss)
  unfolding code_strokes
  hit_behind ss = hit_parts size code beam (after_code size code beam) at (draws code) (has_cursor marked code) sight ss

  pub hit_alone : hit_in sight (code_strokes size code marked beam at) ≡ cond (draws code) (cond (eqb sight 1) (Some (hit at (after_code size code beam))) None) None
  unfolding hit_in
  hit_alone = ap (hit_in sight) (sym (append-nil (code_strokes size code marked beam at))) ∙ hit_behind []

-- "cursors not counted": where a sight falls does not depend on the cursor bits
pub unmarked : (motion : Motion) (beam : Beam) (c0 c1 : Bool) (size : Size) (at sight : ℕ) → hit_in sight (strokes_of motion beam c0 c1 size at) ≡ hit_in sight (strokes_of motion beam false false size at)
unfolding strokes_of codes_strokes
unmarked Still beam c0 c1 size at sight = refl
unmarked (To k t to) beam c0 c1 size at sight = refl
unmarked (Codes s a b) beam c0 c1 size at sight = simp (hit_behind, hit_alone)

-- the items of strokes
abbrev pub along : List Stroke → List Item
along [] = []
along (s ∷ ss) = s.item ∷ along ss

-- a list of items that ends with one that counts, and has this address
pub record Ends (is : List Item) (at : ℕ) : Type 0 where
  pub before : List Item
  pub item : Item
  pub whole : is ≡ before ++ (item ∷ [])
  pub counted : counts item ≡ true
  pub address : item_address item ≡ at

both_true : (a b : Bool) → (a && b) ≡ true → a ≡ true
both_true true b e = refl
both_true false b e = e

module _ (s : Stroke) (ss : List Stroke) (sight : ℕ) where
  missed_by : (t : Bool) → falls sight s.item ≡ t → (hit_in (left sight s.item) ss ≡ None → upto (left sight s.item) ss ≡ along ss) → hit_in sight (s ∷ ss) ≡ None → upto sight (s ∷ ss) ≡ along (s ∷ ss)
  unfolding hit_in upto
  missed_by true e ih h =
      let no : Some (hit (item_address s.item) s.end) ≡ None = simp e at h in
      let z : ◌≡◌ {A = ℕ} 0 1 = cc in
      absurd (omega arith)
  missed_by false e ih h = simp e (ap (λ (is : List Item). s.item ∷ is) (ih (simp e at h)))

  last_by : (at : ℕ) (end : Beam) (t : Bool) → falls sight s.item ≡ t → (hit_in (left sight s.item) ss ≡ Some (hit at end) → Ends (upto (left sight s.item) ss) at) → hit_in sight (s ∷ ss) ≡ Some (hit at end) → Ends (upto sight (s ∷ ss)) at
  unfolding hit_in upto
  last_by at end true e ih h =
      let one_item : Some (hit (item_address s.item) s.end) ≡ Some (hit at end) = simp e at h in
      let same : hit (item_address s.item) s.end ≡ hit at end = cc in
      record { before = []; item = s.item; whole = simp e; counted = both_true _ _ e; address = ap (λ (x : Hit). x.at) same }
  last_by at end false e ih h =
      let r = ih (simp e at h) in
      record { before = s.item ∷ r.before; item = r.item; whole = simp (e, r.whole); counted = r.counted; address = r.address }

-- "no such item means none": where the sight falls on no item, all are drawn
pub missed : (ss : List Stroke) (sight : ℕ) → hit_in sight ss ≡ None → upto sight ss ≡ along ss
unfolding upto
missed [] sight h = refl
missed (s ∷ ss) sight h = missed_by s ss sight (falls sight s.item) refl (missed ss (left sight s.item)) h

-- where it falls on one, that item is the last that is drawn
pub hit_last : (ss : List Stroke) (sight at : ℕ) (end : Beam) → hit_in sight ss ≡ Some (hit at end) → Ends (upto sight ss) at
unfolding hit_in
hit_last [] sight at end h = let z : ◌≡◌ {A = ℕ} 0 1 = cc in absurd (omega arith)
hit_last (s ∷ ss) sight at end h = last_by s ss sight at end (falls sight s.item) refl (hit_last ss (left sight s.item) at end) h

-- "0 none": no sight falls on no item
unseen_by : (h : Option Hit) (rest : ℕ → Option Hit) → rest 0 ≡ None → (b : Bool) → cond (b && eqb 0 1) h (rest (cond b (0 - 1) 0)) ≡ None
unseen_by h rest e true = e
unseen_by h rest e false = e

pub unseen : (ss : List Stroke) → hit_in 0 ss ≡ None
unfolding hit_in
unseen [] = refl
unseen (s ∷ ss) = unseen_by (Some (hit (item_address s.item) s.end)) (λ sight. hit_in sight ss) (unseen ss) (counts s.item)
