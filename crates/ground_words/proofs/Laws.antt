-- What holds of a choice holds of the way taken, and what holds of a list's words holds after one store. Assumes nothing.
use Prim.Native.Nat.{ℕ, zero, suc}
use mathlib.Core.Path.{◌≡◌, refl, ap}
use mathlib.Core.Bool.{Bool, true, false, cond}
use mathlib.Core.List.{List, [], ◌∷◌}
use lib.ListN.{get_or, set}

-- what holds of both ways holds of the one taken
pub either_way : {A : Type 0} (P : A → Type 0) (b : Bool) {x y : A} → P x → P y → P (cond b x y)
either_way P true p q = p
either_way P false p q = q

-- where both tests hold, the way through both is taken
pub both_true : {A : Type 0} (b c : Bool) (x y z : A) → b ≡ true → c ≡ true → cond b (cond c x y) z ≡ x
both_true b c x y z e f = simp (e, f)

-- what holds of a word, and of the one that is stored if that is where, holds of it after the store
pub stored_location : (P : ℕ → Type 0) (words : List ℕ) (a w k : ℕ) → P (get_or words k 0) → (k ≡ a → P w) → P (get_or (set words a w) k 0)
stored_location P [] a w k p q = p
stored_location P (x ∷ words) zero w zero p q = q refl
stored_location P (x ∷ words) zero w (suc k) p q = p
stored_location P (x ∷ words) (suc a) w zero p q = p
stored_location P (x ∷ words) (suc a) w (suc k) p q = stored_location P words a w k p (λ e. q (ap suc e))
