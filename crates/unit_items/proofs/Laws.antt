-- A step's items, with those of its first part, say all that there is to it: two of them with the same are one. Items that are listed behind
-- others are listed with them. Assumes nothing.
use Rattle.std.specs.Prelude.{None, Some}
use Prim.Native.Nat.{ℕ, ◌+◌, ◌-◌, ◌*◌, ◌/◌, ◌≤◌}
use mathlib.Core.Path.{◌≡◌, refl, sym, ap, ◌∙◌}
use mathlib.Core.Bool.{Bool, true, false, cond}
use mathlib.Core.List.{List, [], ◌∷◌, ◌++◌, append_cancel_left}
use native.Mathlib.Omega.{arith}
use lib.ListN.{length, length-append}
use lib.Seq.{sets, length-sets}
use borrow.Author.Tests.{le-leb, leb-true}
use Rattle.unit_items.specs.declared.Item.{Item}
use Rattle.unit_items.proofs.Lists.{sets_append, length_numbers, numbers_append}
use Rattle.unit_items.specs.declared.Part.{Part}
use Rattle.unit_items.specs.declared.Part.TheVariants.{Nothing, One, Two}
use Rattle.unit_items.specs.declared.Drawn.{Drawn}
use Rattle.unit_items.specs.Items.{numbers, items_in, items_of, fits, listing, listed}

abbrev drawn : Part → Part → Drawn
drawn p q = record { first = p; second = q }

pub same_part : (p q : Part) → items_in p ≡ items_in q → p ≡ q
same_part Nothing Nothing e = refl
same_part (One i) (One j) e = cc
same_part (Two i j) (Two k l) e = cc
same_part Nothing (One j) e = absurd (omega (arith, ap length e))
same_part Nothing (Two k l) e = absurd (omega (arith, ap length e))
same_part (One i) Nothing e = absurd (omega (arith, ap length e))
same_part (One i) (Two k l) e = absurd (omega (arith, ap length e))
same_part (Two i j) Nothing e = absurd (omega (arith, ap length e))
same_part (Two i j) (One k) e = absurd (omega (arith, ap length e))

pub same_drawn : (d e : Drawn) → items_of d ≡ items_of e → items_in d.first ≡ items_in e.first → d ≡ e
unfolding items_of
same_drawn d e all one =
    let p : d.first ≡ e.first = same_part d.first e.first one in
    let rest : items_in d.first ++ items_in d.second ≡ items_in d.first ++ items_in e.second = all ∙ cc in
    let q : d.second ≡ e.second = same_part d.second e.second (append_cancel_left (items_in d.first) (items_in d.second) (items_in e.second) rest) in
    ap (λ (x : Part). drawn x d.second) p ∙ ap (λ (y : Part). drawn e.first y) q

no_item : {A : Type 0} (i : Item) (is : List Item) → length (i ∷ is) ≡ 0 → A
no_item i is e = absurd (omega arith)

-- a list takes no item, whatever it is told to hold
pub none_listing : (room held : ℕ) (is : List Item) → length is ≡ 0 → listing room held is ≡ Some held
unfolding listing
none_listing room held [] e =
    let z : held + 0 ≡ held = omega arith in
    simp (le-leb 0 (room / 8 - held) (omega arith)) (ap Some z)
none_listing room held (i ∷ is) e = no_item i is e

pub none_listed : (out : List ℕ) (held : ℕ) (is : List Item) → length is ≡ 0 → listed out held is ≡ out
unfolding listed
none_listed out held [] e = simp (le-leb 0 (length out / 8 - held) (omega arith))
none_listed out held (i ∷ is) e = no_item i is e

-- items that a list takes fit it, and it holds so many more
pub record Taken (room held : ℕ) (is : List Item) (k : ℕ) : Type 0 where
  pub fit : fits room held is ≡ true
  pub more : k ≡ held + length is

taken_by : (room held k : ℕ) (is : List Item) (t : Bool) → fits room held is ≡ t → cond t (Some (held + length is)) None ≡ Some k → Taken room held is k
taken_by room held k is true e h = record { fit = e; more = cc }
taken_by room held k is false e h = let z : ◌≡◌ {A = ℕ} 0 1 = cc in absurd (omega arith)

pub taken : (room held k : ℕ) (is : List Item) → listing room held is ≡ Some k → Taken room held is k
unfolding listing
taken room held k is h = taken_by room held k is (fits room held is) refl h

module _ (held k m : ℕ) (is js : List Item) where
  -- items behind others, and both together
  both_fit : (room : ℕ) → Taken room held is k → Taken room k js m → fits room held (is ++ js) ≡ true
  both_fit room t u =
      le-leb (length (is ++ js)) (room / 8 - held)
      (simp length-append (omega (arith, t.more, leb-true (length is) (room / 8 - held) t.fit, leb-true (length js) (room / 8 - k) u.fit)))

  pub listing_append : (room : ℕ) → listing room held is ≡ Some k → listing room k js ≡ Some m → listing room held (is ++ js) ≡ Some m
  unfolding listing
  listing_append room e f =
      let t = taken room held k is e in
      let u = taken room k m js f in
      let n : held + length (is ++ js) ≡ m = simp length-append (omega (arith, t.more, u.more)) in
      simp (both_fit room t u) (ap Some n)

  pub listed_append : (out : List ℕ) → listing (length out) held is ≡ Some k → listing (length out) k js ≡ Some m
      → listed (listed out held is) k js ≡ listed out held (is ++ js)
  unfolding listed
  listed_append out e f =
      let t = taken (length out) held k is e in
      let u = taken (length out) k m js f in
      let long : length (sets out (held * 8) (numbers is)) ≡ length out = length-sets out (held * 8) (numbers is) in
      let at : k * 8 ≡ held * 8 + length (numbers is) = omega (arith, t.more, length_numbers is) in
      simp (both_fit (length out) t u, t.fit, long, u.fit, numbers_append)
      (sets_append (numbers is) (numbers js) out (held * 8) (k * 8) at)

-- a list keeps its length
pub length_listed : (out : List ℕ) (held : ℕ) (is : List Item) → length (listed out held is) ≡ length out
unfolding listed
length_listed out held is = by (fits (length out) held is)
  where
    by : (t : Bool) → length (cond t (sets out (held * 8) (numbers is)) out) ≡ length out
    by true = length-sets out (held * 8) (numbers is)
    by false = refl

-- items listed, and items behind them: all are listed together
pub listed_on : (out out₁ out₂ : List ℕ) (held k m : ℕ) (is js : List Item)
    → listing (length out) held is ≡ Some k → out₁ ≡ listed out held is → listing (length out₁) k js ≡ Some m → out₂ ≡ listed out₁ k js
    → (listing (length out) held (is ++ js) ≡ Some m) × (out₂ ≡ listed out held (is ++ js))
listed_on out out₁ out₂ held k m is js e p f q =
    let long : length out₁ ≡ length out = ap length p ∙ length_listed out held is in
    let g : listing (length out) k js ≡ Some m = ap (λ (n : ℕ). listing n k js) (sym long) ∙ f in
    (listing_append held k m is js (length out) e g, q ∙ ap (λ (l : List ℕ). listed l k js) p ∙ listed_append held k m is js out e g)

-- where there is room a list is not full
pub roomy : (room held : ℕ) (is : List Item) → held + length is ≤ room / 8 → listing room held is ≡ Some (held + length is)
unfolding listing
roomy room held is h = simp (le-leb (length is) (room / 8 - held) (omega arith))

pub not_full : {A : Type 0} (room held : ℕ) (is : List Item) → held + length is ≤ room / 8 → listing room held is ≡ None → A
not_full room held is h e =
    let r = sym (roomy room held is h) ∙ e in
    let z : ◌≡◌ {A = ℕ} 0 1 = cc in
    absurd (omega arith)

-- a full list stays as it was
full_by : (out : List ℕ) (held : ℕ) (is : List Item) (t : Bool) → cond t (Some (held + length is)) None ≡ None → cond t (sets out (held * 8) (numbers is)) out ≡ out
full_by out held is true e = let z : ◌≡◌ {A = ℕ} 0 1 = cc in absurd (omega arith)
full_by out held is false e = refl

pub full_listed : (out : List ℕ) (held : ℕ) (is : List Item) → listing (length out) held is ≡ None → listed out held is ≡ out
unfolding listing listed
full_listed out held is e = full_by out held is (fits (length out) held is) e

-- where items and more behind them are listed, the first are listed alone, and then the others
pub record Split (room held : ℕ) (is js : List Item) (m : ℕ) : Type 0 where
  pub first : listing room held is ≡ Some (held + length is)
  pub then : listing room (held + length is) js ≡ Some m

pub listing_split : (room held m : ℕ) (is js : List Item) → listing room held (is ++ js) ≡ Some m → Split room held is js m
unfolding listing
listing_split room held m is js e =
    let t = taken room held m (is ++ js) e in
    let long = length-append is js in
    let h = leb-true (length (is ++ js)) (room / 8 - held) t.fit in
    let n : held + length is + length js ≡ m = omega (arith, t.more) in
    record {
      first = simp (le-leb (length is) (room / 8 - held) (omega arith));
      then = simp (le-leb (length js) (room / 8 - (held + length is)) (omega arith)) (ap Some n);
    }
