-- The words of a dump in an array that has room for it.
use mathlib.Core.Path.{◌≡◌, sym, ap, ◌∙◌}
use mathlib.Core.List.{List, ◌++◌}
use Prim.Native.Nat.{ℕ, zero, suc, ◌-◌, ◌≤◌}
use native.Mathlib.Nat.{zero-add, sub-zero}
use native.Mathlib.Omega.{arith}
use lib.ListN.{length, drop, replicate, length-replicate}
use lib.Seq.{sets-eq}
use Rattle.ground_location.specs.Location.{fresh_word}
use Rattle.unit_loading.specs.Loading.{dump_words}

zero_less : (n : ℕ) → 0 ≡ 0 - suc n
zero_less n = omega arith

less_one : (n m : ℕ) → m - n ≡ suc m - suc n
less_one n m = omega arith

-- what is left of equal words
rest_replicate : {A : Type 0} (n m : ℕ) (a : A) → drop n (replicate m a) ≡ replicate (m - n) a
rest_replicate zero m a = ap (λ (k : ℕ). replicate k a) (sym (sub-zero m))
rest_replicate (suc n) zero a = ap (λ (k : ℕ). replicate k a) (zero_less n)
rest_replicate (suc n) (suc m) a = rest_replicate n m a ∙ ap (λ (k : ℕ). replicate k a) (less_one n m)

-- a dump that the array has room for, and fresh words behind it
pub dump_fits : (n : ℕ) (dump : List ℕ) → length dump ≤ n → dump_words n dump ≡ dump ++ replicate (n - length dump) fresh_word
unfolding dump_words
dump_fits n dump h =
    sets-eq dump (replicate n fresh_word) 0 (rw (zero-add, length-replicate) h)
    ∙ rw zero-add (ap (λ (l : List ℕ). dump ++ l) (rest_replicate (length dump) n fresh_word))
