-- What typing at the cursor never does, shown case by case. Assumes nothing.
use Rattle.std.specs.Prelude.{Err, None, Ok, Option, Result, Some}
use Rattle.typing_keyboard.specs.declared.Press.{Press}
use Rattle.ground_refusals.specs.declared.Refusal.{Refusal}
use Prim.Native.Nat.{ℕ, ◌%◌, ◌<◌}
use native.Mathlib.Omega.{arith}
use mathlib.Core.Path.{◌≡◌, refl, sym, ap, ◌∙◌}
use mathlib.Core.Logic.{◌≢◌}
use mathlib.Core.Bool.{Bool, true, false, false≢true, cond, ◌&&◌, ◌||◌}
use mathlib.Core.List.{List}
use lib.Dec.{ltb, eqb}
use lib.ListN.{get_or}
use borrow.Author.Tests.{ltb-true, eqb-true, ne_eqb}
use Rattle.ground_location.specs.Location.{data_of, good_of, proper_of, word_of, Unaltered}
use Rattle.ground_location.proofs.Laws.{data_stored, good_stored, proper_stored}
use Rattle.ground_setup.specs.Setup.{wrap_of}
use Rattle.ground_setup.proofs.Laws.{wrap_twice}
use Rattle.ground_setup.specs.declared.Size.{Size}
use Rattle.ground_refusals.specs.declared.Refusal.TheVariants.{UnknownKey}
use Rattle.unit_cursor.specs.Cursor.{other_of}
use Rattle.unit_head.specs.Head.{size_in, buffer_of}
use Rattle.typing_signs.specs.Signs.{byte_at, even_of, order_at}
use Rattle.typing_seek.specs.Seek.{order_behind}
use Rattle.typing_fields.specs.Fields.{field_by, field_of}
use Rattle.typing_fields.specs.declared.Field.{Field}
use Rattle.typing_keyboard.specs.Acts.{letter_of, sign_of, coded_of, numbered_of}
use Rattle.typing_keyboard.specs.declared.Press.TheVariants as press
use Rattle.typing_keys.specs.Keys.{KeyValues, KeyEnd}
use Rattle.unit_cursor.proofs.Alike.{alike_refl}
use Rattle.theorem_typing.specs.Typing.{stored_by, HeadKept, RefusalChangesNothing, UnheardChangesNothing, HeadStays, OthersStay, SilentKey, ProtectedRefuses, GoodStays, ProperStays, NoOrderMade, OrdersStay}
use Rattle.theorem_typing.proofs.Words.{moved_alike, moved_others, stored_each, stored_others}
use Rattle.theorem_typing.proofs.Each.{each}

-- a key's code is a byte, and it is no 2A
pub record Typeable (code : ℕ) : Type 0 where
  pub byte : code < 256
  pub no_2_a : code ≢ 0x2A

coded_typeable : (n code : ℕ) → n < 256 → (t : Bool) → (letter_of n || sign_of n) ≡ t
    → cond t (Ok (press.Character n)) (Err UnknownKey) ≡ Ok (press.Character code) → Typeable code
unfolding letter_of sign_of
coded_typeable n code h true a e =
    let same : n ≡ code = cc in
    record {
      byte = omega arith;
      no_2_a = λ c.
          let b : true ≡ false = sym a ∙ ap (λ (x : ℕ). letter_of x || sign_of x) (same ∙ c) in
          let z : ◌≡◌ {A = ℕ} 0 1 = cc in
          omega arith;
    }
coded_typeable n code h false a e = absurd (let z : ◌≡◌ {A = ℕ} 0 1 = cc in omega arith)

-- the keys but those of characters
abbrev moving : ℕ → Result Press Refusal
moving n =
    cond (eqb n 256) (Ok press.Advance)
    (cond (eqb n 257) (Ok press.Backspace) (cond (eqb n 258) (Ok press.Jump) (Err UnknownKey)))

no_character : (code : ℕ) (t u v : Bool)
    → cond t (Ok press.Advance) (cond u (Ok press.Backspace) (cond v (Ok press.Jump) (Err UnknownKey)))
    ≡ Ok (press.Character code)
    → ⊥
no_character code true u v e = let z : ◌≡◌ {A = ℕ} 0 1 = cc in omega arith
no_character code false true v e = let z : ◌≡◌ {A = ℕ} 0 1 = cc in omega arith
no_character code false false true e = let z : ◌≡◌ {A = ℕ} 0 1 = cc in omega arith
no_character code false false false e = let z : ◌≡◌ {A = ℕ} 0 1 = cc in omega arith

numbered_typeable : (n code : ℕ) (t : Bool) → ltb n 256 ≡ t → cond t (coded_of n) (moving n) ≡ Ok (press.Character code) → Typeable code
numbered_typeable n code true l e = coded_typeable n code (ltb-true n 256 l) (letter_of n || sign_of n) refl e
numbered_typeable n code false l e = absurd (no_character code (eqb n 256) (eqb n 257) (eqb n 258) e)

-- the code of every character key is one that may be typed
pub key_typeable : (n code : ℕ) → numbered_of n ≡ Ok (press.Character code) → Typeable code
unfolding numbered_of
key_typeable n code e = numbered_typeable n code (ltb n 256) refl e

-- a location in a field of characters is not the first byte of an order
field_by_order : (p : Option Field) (f : Field) (t : Bool) → cond t None p ≡ Some f → t ≡ false
field_by_order p f true e = absurd (let z : ◌≡◌ {A = ℕ} 0 1 = cc in omega arith)
field_by_order p f false e = refl

module _ (words : List ℕ) (s : Size) (at : ℕ) where
  -- an order is told by where the address stands in the buffer
  order_there : (to : ℕ) → wrap_of s at ≡ to → order_at words s to ≡ order_at words s at
  unfolding order_at byte_at
  order_there to e = rw (sym e, wrap_twice s at)

  by_parity : (t : Bool) → eqb (wrap_of s at % 2) 0 ≡ t → order_at words s (even_of s at) ≡ false → order_at words s at ≡ false
  unfolding order_at
  by_parity true e o =
      let h : wrap_of s at % 2 ≡ 0 = eqb-true (wrap_of s at % 2) 0 e in
      let same : wrap_of s at ≡ even_of s at = omega arith in
      sym (order_there (even_of s at) same) ∙ o
  by_parity false e o = rw e

  field_no_order : (f : Field) → field_of words s at ≡ Some f → order_at words s at ≡ false
  unfolding field_of
  field_no_order f e =
      by_parity (eqb (wrap_of s at % 2) 0) refl
      (field_by_order (field_by words s (order_behind words s at)) f (order_at words s (even_of s at)) e)

and_none : (t : Bool) → (t && false) ≡ false
and_none true = refl
and_none false = refl

pub refusal_changes_nothing : RefusalChangesNothing
refusal_changes_nothing u number r =
    each u number (λ (q : KeyEnd). q.answer ≡ KeyValues.refused r → q.unit ≡ u) (λ r' e. refl) (λ e. refl) (λ at c e. refl) (λ at to c e. cc)
    (λ at code to h e. cc)

pub unheard_changes_nothing : UnheardChangesNothing
unheard_changes_nothing u number =
    each u number (λ (q : KeyEnd). q.answer ≡ KeyValues.unheard → q.unit ≡ u) (λ r e. refl) (λ e. refl) (λ at c e. refl) (λ at to c e. cc)
    (λ at code to h e. cc)

pub head_stays : HeadStays
head_stays u number =
    let kept : HeadKept u.head u.head = record { state = refl; status = refl; sense = refl } in
    each u number (λ (q : KeyEnd). HeadKept u.head q.unit.head) (λ r. kept) kept
    (λ at c. record { state = refl; status = refl; sense = refl })
    (λ at to c. record { state = refl; status = refl; sense = refl })
    (λ at code to h. record { state = refl; status = refl; sense = refl })

pub others_stay : OthersStay
others_stay u number at to k stored cursor =
    each u number
    (λ (q : KeyEnd).
    q.answer ≡ KeyValues.heard stored to → k ≢ wrap_of (size_in u) at → k ≢ wrap_of (size_in u) to
    → k ≢ other_of (wrap_of (size_in u) to) → get_or q.unit.words k 0 ≡ get_or u.words k 0)
    (λ r e m n o. refl) (λ e m n o. refl) (λ at' c e m n o. refl)
    (λ at' to' c e.
    let a : at' ≡ at = cc in
    let b : to' ≡ to = cc in
    rw (a, b) (moved_others (size_in u) at to (buffer_of u) k))
    (λ at' code to' h e.
    let c = h.cursor in
    let a : at' ≡ at = cc in
    let b : to' ≡ to = cc in
    rw (a, b) (stored_others (size_in u) at to (buffer_of u) k code))

pub silent_key : SilentKey
silent_key u number =
    each u number (λ (q : KeyEnd). stored_by q.answer ≡ false → (k : ℕ) → Unaltered (get_or u.words k 0) (get_or q.unit.words k 0))
    (λ r e k. (alike_refl (get_or u.words k 0)).unaltered) (λ e k. (alike_refl (get_or u.words k 0)).unaltered)
    (λ at c e k. (alike_refl (get_or u.words k 0)).unaltered)
    (λ at to c e k. (moved_alike (size_in u) at to (buffer_of u) k).unaltered)
    (λ at code to h e k. let z : ◌≡◌ {A = ℕ} 0 1 = cc in absurd (omega arith))

pub protected_refuses : ProtectedRefuses
protected_refuses u number at f cursor in_field shut =
    each u number (λ (q : KeyEnd). stored_by q.answer ≡ false) (λ r. refl) refl (λ at' c. refl) (λ at' to c. refl)
    (λ at' code to h.
    let c = h.cursor in
    let a : at' ≡ at = cc in
    let g : Some h.field ≡ Some f = sym h.here ∙ rw a in_field in
    let same : h.field ≡ f = cc in
    let own : h.field.shut ≡ true = ap (λ (x : Field). x.shut) same ∙ shut in
    absurd (false≢true (sym h.unprotected ∙ own)))

pub good_stays : GoodStays
good_stays u number k =
    each u number (λ (q : KeyEnd). good_of (get_or u.words k 0) ≡ true → good_of (get_or q.unit.words k 0) ≡ true)
    (λ r g. g) (λ g. g) (λ at c g. g)
    (λ at to c. (moved_alike (size_in u) at to (buffer_of u) k).unaltered.still_good)
    (λ at code to h.
    stored_each (size_in u) at to (buffer_of u) k code (λ (w : ℕ). good_of (get_or u.words k 0) ≡ true → good_of w ≡ true)
    (λ w v a before g. a.unaltered.still_good (before g)) (λ g. g)
    (λ e g. good_stored code false true (key_typeable number code h.pressed).byte))

pub proper_stays : ProperStays
proper_stays u number k =
    each u number (λ (q : KeyEnd). proper_of (get_or u.words k 0) ≡ true → proper_of (get_or q.unit.words k 0) ≡ true)
    (λ r g. g) (λ g. g) (λ at c g. g)
    (λ at to c. (moved_alike (size_in u) at to (buffer_of u) k).still_proper)
    (λ at code to h.
    stored_each (size_in u) at to (buffer_of u) k code (λ (w : ℕ). proper_of (get_or u.words k 0) ≡ true → proper_of w ≡ true)
    (λ w v a before g. a.still_proper (before g)) (λ g. g)
    (λ e g. proper_stored code false true (key_typeable number code h.pressed).byte))

pub no_order_made : NoOrderMade
no_order_made u number k =
    each u number (λ (q : KeyEnd). data_of (get_or q.unit.words k 0) ≡ 0x2A → data_of (get_or u.words k 0) ≡ 0x2A)
    (λ r g. g) (λ g. g) (λ at c g. g)
    (λ at to c g. sym (moved_alike (size_in u) at to (buffer_of u) k).unaltered.data_kept ∙ g)
    (λ at code to h.
    stored_each (size_in u) at to (buffer_of u) k code (λ (w : ℕ). data_of w ≡ 0x2A → data_of (get_or u.words k 0) ≡ 0x2A)
    (λ w v a before g. before (sym a.unaltered.data_kept ∙ g)) (λ g. g)
    (λ e g.
    let t = key_typeable number code h.pressed in
    absurd (t.no_2_a (sym (data_stored code false true t.byte) ∙ g))))

pub orders_stay : OrdersStay
unfolding order_at byte_at
orders_stay u number k =
    let s = size_in u in
    each u number (λ (q : KeyEnd). order_at q.unit.words (size_in u) k ≡ order_at u.words (size_in u) k) (λ r. refl) refl
    (λ at c. refl)
    (λ at to c.
    ap (λ (x : ℕ). eqb (wrap_of s k % 2) 0 && eqb x 0x2A) (moved_alike s at to (buffer_of u) (wrap_of s k)).unaltered.data_kept)
    (λ at code to h.
    stored_each s at to (buffer_of u) (wrap_of s k) code
    (λ (w : ℕ). (eqb (wrap_of s k % 2) 0 && eqb (data_of w) 0x2A) ≡ order_at u.words s k)
    (λ w v a before. ap (λ (x : ℕ). eqb (wrap_of s k % 2) 0 && eqb x 0x2A) a.unaltered.data_kept ∙ before) refl
    (λ e.
    let t = key_typeable number code h.pressed in
    let typed : eqb (data_of (word_of code false true)) 0x2A ≡ false =
    ap (λ (x : ℕ). eqb x 0x2A) (data_stored code false true t.byte) ∙ ne_eqb code 0x2A t.no_2_a
    in
    let here : order_at u.words s k ≡ order_at u.words s at =
    ap (λ (x : ℕ). eqb (x % 2) 0 && eqb (data_of (get_or u.words x 0)) 0x2A) e
    in
    ap (λ (b : Bool). eqb (wrap_of s k % 2) 0 && b) typed ∙ and_none (eqb (wrap_of s k % 2) 0)
    ∙ sym (here ∙ field_no_order u.words s at h.field h.here)))
