-- What the table's rule gives: a row is found by its own code, and 2A finds none. Assumes nothing.
use Rattle.std.specs.Prelude.{None, Some}
use mathlib.Core.Path.{◌≡◌, refl, sym}
use mathlib.Core.Bool.{Bool, true, false, not, ◌&&◌}
use mathlib.Core.List.{List, [], ◌∷◌}
use Prim.Native.Nat.{ℕ, zero, suc, ◌<◌}
use native.Mathlib.Nat.{not-suc-le-zero, le_of_suc-le-suc}
use lib.Dec.{T, eqb}
use borrow.Author.Tests.{eq-eqb, ne_eqb, eqb-false}
use lib.ListN.{length, get_or}
use Rattle.ground_orders.specs.Orders.{table, find_in, order_of}
use Rattle.ground_orders.specs.Rule.{absent, differ, rule}
use Rattle.ground_orders.specs.declared.Row.{Row}

first_holds : (a b : Bool) → T (a && b) → T a
first_holds true b t = tt
first_holds false b t = t

second_holds : (a b : Bool) → T (a && b) → T b
second_holds true b t = t
second_holds false b t = absurd t

refuted : (b : Bool) → T (not b) → b ≡ false
refuted true t = absurd t
refuted false t = refl

-- a code that no row has is not found
pub absent_missing : (code : ℕ) (rs : List Row) → T (absent code rs) → find_in rs code ≡ None
unfolding find_in
absent_missing code [] t = refl
absent_missing code (r ∷ rs) t =
    simp (refuted (eqb r.code code) (first_holds (not (eqb r.code code)) (absent code rs) t))
    (absent_missing code rs (second_holds (not (eqb r.code code)) (absent code rs) t))

-- where codes differ, a row is found by its own code
module _ (d : Row) where
  absent_at : (code : ℕ) (rs : List Row) → T (absent code rs) → (k : ℕ) → k < length rs → eqb code (get_or rs k d).code ≡ false
  absent_at code [] t k h = absurd (not-suc-le-zero h)
  absent_at code (r ∷ rs) t zero h =
      ne_eqb code r.code
      (λ e. eqb-false r.code code (refuted (eqb r.code code) (first_holds (not (eqb r.code code)) (absent code rs) t)) (sym e))
  absent_at code (r ∷ rs) t (suc k) h = absent_at code rs (second_holds (not (eqb r.code code)) (absent code rs) t) k (le_of_suc-le-suc h)

  pub found_at : (rs : List Row) → T (differ rs) → (k : ℕ) → k < length rs → find_in rs (get_or rs k d).code ≡ Some (get_or rs k d)
  unfolding find_in
  found_at [] t k h = absurd (not-suc-le-zero h)
  found_at (r ∷ rs) t zero h = simp (eq-eqb r.code r.code refl)
  found_at (r ∷ rs) t (suc k) h =
      simp (absent_at r.code rs (first_holds (absent r.code rs) (differ rs) t) k (le_of_suc-le-suc h))
      (found_at rs (second_holds (absent r.code rs) (differ rs) t) k (le_of_suc-le-suc h))

-- none is 2A
pub no_2_a : order_of 0x2A ≡ None
unfolding order_of
no_2_a = absent_missing 0x2A table (second_holds (differ table) (absent 0x2A table) rule)

-- codes differ: each row of the table is the one that its code finds
pub own_code : (d : Row) (k : ℕ) → k < length table → order_of (get_or table k d).code ≡ Some (get_or table k d)
unfolding order_of
own_code d k h = found_at d table (first_holds (differ table) (absent 0x2A table) rule) k h
