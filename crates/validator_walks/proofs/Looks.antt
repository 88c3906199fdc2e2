-- What every look gives: the places it goes on to are places of the buffer, and an image has no bad parity. Assumes nothing.
use Rattle.std.specs.Prelude.{None, Option, Some}
use mathlib.Core.Path.{◌≡◌, refl, sym, subst}
use mathlib.Core.Logic.{⊎_elim}
use mathlib.Core.Bool.{Bool, true, false, cond, false≢true, ◌&&◌}
use mathlib.Core.List.{List, [], ◌∷◌}
use Prim.Native.Nat.{ℕ, ◌+◌, ◌*◌, ◌%◌}
use native.Mathlib.Omega.{arith}
use lib.ListN.{length, get_or}
use lib.Dec.{eqb, ltb}
use borrow.Author.Tests.{eqb-true, eqb-false, ltb-true}
use Rattle.ground_setup.specs.Setup.{size_of, wrap_of, ahead_of}
use Rattle.ground_setup.specs.declared.Setup.{Setup}
use Rattle.ground_setup.proofs.Laws.{below, wrap_parity}
use Rattle.ground_words.proofs.Laws.{either_way}
use Rattle.ground_orders.specs.Orders.{order_of, find_in, table}
use Rattle.ground_orders.specs.declared.Mode.{Mode}
use Rattle.ground_orders.specs.declared.Mode.TheVariants.{Idle}
use Rattle.ground_orders.specs.declared.Follows.{Follows}
use Rattle.ground_orders.specs.declared.Follows.TheVariants as follows
use Rattle.ground_orders.specs.declared.Row.{Row}
use Rattle.ground_groups.specs.Groups.{group_by, image_group}
use Rattle.ground_groups.specs.declared.Group.{Group}
use Rattle.ground_groups.specs.declared.Group.TheVariants as group
use Rattle.ground_look.specs.Look.{order_by, found_by, placing, data_by, first_by, target_by, second_by, look_of}
use Rattle.ground_look.specs.declared.Begun.{Begun}
use Rattle.ground_look.specs.declared.Begun.TheVariants as begun
use Rattle.ground_look.specs.declared.Look.{Look}
use Rattle.ground_look.specs.declared.Look.TheVariants as look
use Rattle.validator_walks.specs.declared.Place.{Place}
use Rattle.validator_walks.specs.Places.{place, Proper}
use Rattle.validator_walks.specs.Steps.{Leads, step_by}

-- what holds of each way by its test holds of the one that is taken
cond_each : {A : Type 0} (P : A → Type 0) (b : Bool) (x y : A) → (b ≡ true → P x) → (b ≡ false → P y) → P (cond b x y)
cond_each P true x y u v = u refl
cond_each P false x y u v = v refl

-- every order is an even number of bytes long
abbrev Evenly : Option Row → Type 0
Evenly None = Unit {0}
Evenly (Some r) = r.length % 2 ≡ 0

all_even : List Row → Bool
all_even [] = true
all_even (r ∷ rs) = cond (eqb (r.length % 2) 0) (all_even rs) false

cond_true : (b x : Bool) → cond b x false ≡ true → (b ≡ true) × (x ≡ true)
cond_true true x e = (refl, e)
cond_true false x e = absurd (false≢true e)

find_even : (rs : List Row) → all_even rs ≡ true → (code : ℕ) → Evenly (find_in rs code)
unfolding find_in all_even
find_even [] h code = tt
find_even (r ∷ rs) h code =
    let b = cond_true (eqb (r.length % 2) 0) (all_even rs) h in
    either_way Evenly (eqb r.code code) (eqb-true (r.length % 2) 0 b.0) (find_even rs b.1 code)

rows_even : all_even table ≡ true
unfolding all_even table
rows_even = refl

order_even : (code : ℕ) → Evenly (order_of code)
unfolding order_of
order_even code = find_even table rows_even code

module _ (su : Setup) where
  -- an even number of bytes on from an even address
  ahead_proper : (a n : ℕ) (m : Mode) → a % 2 ≡ 0 → n % 2 ≡ 0 → Proper su.size (place (ahead_of su.size a n) m)
  ahead_proper a n m e h =
      let s = su.size in
      record { even = omega (arith, wrap_parity s (wrap_of s a + n), wrap_parity s a); inside = below s (wrap_of s a + n) }

  -- every place that a look in mode m goes on to is a place of the buffer
  abbrev Sound : Mode → Look → Type 0
  Sound m l = (q : Place) → Leads (step_by m l) q → Proper su.size q

  abbrev Going : Mode → Begun → Type 0
  Going m (begun.Done l) = Sound m l
  Going m (begun.Target may next) = Proper su.size (place next Idle)
  Going m (begun.Coordinate b c next) = Proper su.size (place next m)

  to_proper : (p : Place) → Proper su.size p → (q : Place) → q ≡ p → Proper su.size q
  to_proper p P q e = subst (Proper su.size) (sym e) P

  module _ (a : ℕ) (even : a % 2 ≡ 0) (m : Mode) where
    order_going : (n : ℕ) → n % 2 ≡ 0 → (f : Follows) → Going m (order_by su.size a n f)
    order_going n h (follows.Enter x) = to_proper _ (ahead_proper a n x even h)
    order_going n h follows.Pass = to_proper _ (ahead_proper a n Idle even h)
    order_going n h follows.End = λ q l. absurd l
    order_going n h follows.Timer = to_proper _ (ahead_proper a n Idle even h)
    order_going n h (follows.SetPen p) = to_proper _ (ahead_proper a n Idle even h)
    order_going n h follows.Transfer = ahead_proper a n Idle even h
    order_going n h follows.NoDetect = ahead_proper a n Idle even h

    found_going : (f : Option Row) → Evenly f → Going m (found_by su a f)
    found_going None e = λ q l. absurd l
    found_going (Some r) e = order_going r.length e r.follows

    data_going : (b c : ℕ) → Going m (data_by su.size a b c m)
    data_going b c =
        either_way (Going m) (placing m) (ahead_proper a 4 m even refl) (to_proper _ (ahead_proper a 2 m even refl))

    first_going : (g : Group) → Going m (first_by su a m g)
    first_going group.Unwritten = λ q l. absurd l
    first_going (group.Bad x) = λ q l. absurd l
    first_going (group.Bytes b c) =
        either_way (Going m) (eqb b 0x2A) (found_going (order_of c) (order_even c)) (data_going b c)

  module _ (m : Mode) where
    target_sound : (may : Bool) (next t : ℕ) → Proper su.size (place next Idle) → Sound m (target_by su.size may next t)
    target_sound may next t P =
        cond_each (Sound m) (eqb (t % 2) 1) _ _
        (λ _. λ q l. absurd l)
        (λ o. cond_each (Sound m) (ltb t (size_of su.size)) _ _
        (λ i.
        let n : ¬ (t % 2 ≡ 1) = eqb-false (t % 2) 1 o in
        let T : Proper su.size (place t Idle) = record { even = omega arith; inside = ltb-true t (size_of su.size) i } in
        either_way (Sound m) may
        (λ q. ⊎_elim (to_proper _ T q) (to_proper _ P q))
        (to_proper _ T))
        (λ _. λ q l. absurd l))

    second_sound : (b : Begun) → Going m b → (g : Group) → Sound m (second_by su.size b g)
    second_sound (begun.Done l) G g = G
    second_sound (begun.Target may next) G group.Unwritten = λ q l. absurd l
    second_sound (begun.Target may next) G (group.Bad x) = λ q l. absurd l
    second_sound (begun.Target may next) G (group.Bytes b c) = target_sound may next (b * 0x100 + c) G
    second_sound (begun.Coordinate x y next) G group.Unwritten = λ q l. absurd l
    second_sound (begun.Coordinate x y next) G (group.Bad z) = λ q l. absurd l
    second_sound (begun.Coordinate x y next) G (group.Bytes b c) =
        either_way (Sound m) (eqb b 0x2A) (λ q l. absurd l) (to_proper _ G)

  -- from an even address every look goes on to places of the buffer
  pub look_sound : (fetch : ℕ → Group) (a : ℕ) (m : Mode) → a % 2 ≡ 0 → (q : Place) → Leads (step_by m (look_of fetch su a m)) q → Proper su.size q
  unfolding look_of
  look_sound fetch a m even = second_sound m (first_by su a m (fetch a)) (first_going a even m (fetch a)) (fetch (ahead_of su.size a 2))

-- a group that is not bad
abbrev pub Good : Group → Type 0
Good group.Unwritten = Unit {0}
Good (group.Bad a) = ⊥
Good (group.Bytes b c) = Unit {0}

group_good : (written : Bool) (a b x y : ℕ) → Good (group_by written true true a b x y)
group_good true a b x y = tt
group_good false a b x y = tt

-- no group of an image has bad parity
pub image_good : (image : List ℕ) (su : Setup) (a : ℕ) → Good (image_group image su a)
unfolding image_group
image_good image su a =
    let s = su.size in
    group_good (ltb (wrap_of s a) (length image) && ltb (ahead_of s a 1) (length image)) (wrap_of s a) (ahead_of s a 1)
    (get_or image (wrap_of s a) 0) (get_or image (ahead_of s a 1) 0)

-- a look that is no data check
abbrev Fine : Look → Type 0
Fine (look.Fault f) = Unit {0}
Fine (look.Check a) = ⊥
Fine (look.Enter m a) = Unit {0}
Fine (look.Pass a) = Unit {0}
Fine (look.Timer a) = Unit {0}
Fine (look.SetPen p a) = Unit {0}
Fine (look.End a) = Unit {0}
Fine (look.Jump a) = Unit {0}
Fine (look.Either a b) = Unit {0}
Fine (look.Two b c a) = Unit {0}
Fine (look.Four b c d e a) = Unit {0}

abbrev Begins : Begun → Type 0
Begins (begun.Done l) = Fine l
Begins (begun.Target may next) = Unit {0}
Begins (begun.Coordinate b c next) = Unit {0}

module _ (su : Setup) (a : ℕ) (m : Mode) where
  order_begins : (n : ℕ) (f : Follows) → Begins (order_by su.size a n f)
  order_begins n (follows.Enter x) = tt
  order_begins n follows.Pass = tt
  order_begins n follows.End = tt
  order_begins n follows.Timer = tt
  order_begins n (follows.SetPen p) = tt
  order_begins n follows.Transfer = tt
  order_begins n follows.NoDetect = tt

  found_begins : (f : Option Row) → Begins (found_by su a f)
  found_begins None = tt
  found_begins (Some r) = order_begins r.length r.follows

  data_begins : (b c : ℕ) → Begins (data_by su.size a b c m)
  data_begins b c = either_way Begins (placing m) tt tt

  first_begins : (g : Group) → Good g → Begins (first_by su a m g)
  first_begins group.Unwritten G = tt
  first_begins (group.Bad x) G = absurd G
  first_begins (group.Bytes b c) G = either_way Begins (eqb b 0x2A) (found_begins (order_of c)) (data_begins b c)

  target_fine : (may : Bool) (next t : ℕ) → Fine (target_by su.size may next t)
  target_fine may next t =
      either_way Fine (eqb (t % 2) 1) tt
      (either_way Fine (ltb t (size_of su.size)) (either_way Fine may tt tt) tt)

  second_fine : (b : Begun) → Begins b → (g : Group) → Good g → Fine (second_by su.size b g)
  second_fine (begun.Done l) B g G = B
  second_fine (begun.Target may next) B group.Unwritten G = tt
  second_fine (begun.Target may next) B (group.Bad x) G = absurd G
  second_fine (begun.Target may next) B (group.Bytes b c) G = target_fine may next (b * 0x100 + c)
  second_fine (begun.Coordinate x y next) B group.Unwritten G = tt
  second_fine (begun.Coordinate x y next) B (group.Bad z) G = absurd G
  second_fine (begun.Coordinate x y next) B (group.Bytes b c) G = either_way Fine (eqb b 0x2A) tt tt

-- no look at an image meets bad parity
pub no_check : (image : List ℕ) (su : Setup) (a : ℕ) (m : Mode) (at : ℕ) → look_of (image_group image su) su a m ≡ look.Check at → ⊥
unfolding look_of
no_check image su a m at e =
    let b = ahead_of su.size a 2 in
    subst Fine e
    (second_fine su a m (first_by su a m (image_group image su a)) (first_begins su a m (image_group image su a) (image_good image su a)) (image_group image su b) (image_good image su b))
