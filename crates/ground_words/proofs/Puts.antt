-- What one copy puts is what the stores put one by one.
use mathlib.Core.Path.{◌≡◌, refl, ap, ◌∙◌}
use mathlib.Core.List.{List, [], ◌∷◌, ◌++◌}
use Prim.Native.Nat.{ℕ, zero, suc, ◌<◌, ◌≤◌, min}
use native.Mathlib.Omega.{arith}
use lib.ListN.{length, take, drop, set}
use lib.Seq.{sets, set_out}

-- stores behind the end change nothing
sets_out : {A : Type 0} (l : List A) (i : ℕ) (vs : List A) → length l ≤ i → sets l i vs ≡ l
sets_out l i [] h = refl
sets_out l i (v ∷ vs) h =
    ap (λ x. sets x (suc i) vs) (set_out l i v h) ∙ sets_out l (suc i) vs (omega arith)

-- stores behind the first element
sets_behind : {A : Type 0} (w : A) (ws : List A) (i : ℕ) (vs : List A) → sets (w ∷ ws) (suc i) vs ≡ w ∷ sets ws i vs
sets_behind w ws i [] = refl
sets_behind w ws i (v ∷ vs) = sets_behind w (set ws i v) (suc i) vs

-- as many elements as there is room for, and those behind them
put_first : {A : Type 0} (into from : List A) (n : ℕ) → n ≤ length from → n ≤ length into → (n < length from → length into ≤ n)
    → sets into 0 from ≡ take n from ++ drop n into
put_first [] from zero h k f = sets_out [] 0 from (omega arith)
put_first [] from (suc n) h k f = absurd (omega arith)
put_first (w ∷ ws) [] zero h k f = refl
put_first (w ∷ ws) [] (suc n) h k f = absurd (omega arith)
put_first (w ∷ ws) (v ∷ vs) zero h k f = let g : length (w ∷ ws) ≤ 0 = f (omega arith) in absurd (omega arith)
put_first (w ∷ ws) (v ∷ vs) (suc n) h k f =
    sets_behind v ws 0 vs
    ∙ ap (λ l. v ∷ l) (put_first ws vs n (omega arith) (omega arith) (λ q. let g : length (w ∷ ws) ≤ suc n = f (omega arith) in omega arith))

pub put_prefix : {A : Type 0} (into from : List A) → sets into 0 from ≡ take (min (length from) (length into)) from ++ drop (min (length from) (length into)) into
put_prefix into from = put_first into from (min (length from) (length into)) (grind arith) (grind arith) (grind arith)
