-- Texts that are put one behind the other, from none on, and how long they are.
use Prim.Native.Nat.{ℕ, zero, suc, ◌+◌, ◌*◌, ◌≤◌}
use mathlib.Core.Path.{◌≡◌, refl}
use mathlib.Core.List.{List, [], ◌++◌}
use native.Mathlib.Omega.{arith}
use native.Mathlib.Nat.{suc-mul}
use native.Mathlib.Numerals.{add-one}
use lib.ListN.{length, length-append}
use Rattle.console_phrases.specs.Phrases.{each_of}

-- none of the texts, and one more
pub none_of : (text : ℕ → List ℕ) → each_of text 0 ≡ []
unfolding each_of
none_of text = refl

pub one_more_of : (text : ℕ → List ℕ) (i : ℕ) → each_of text (i + 1) ≡ each_of text i ++ text i
unfolding each_of
one_more_of text i = rw (add-one) refl

-- so many texts, none longer than a bound
pub each_short : (text : ℕ → List ℕ) (bound : ℕ) → ((i : ℕ) → length (text i) ≤ bound) → (n : ℕ) → length (each_of text n) ≤ n * bound
unfolding each_of
each_short text bound short zero = omega arith
each_short text bound short (suc n) =
    rw (length-append (each_of text n) (text n), suc-mul n bound) (omega (arith, each_short text bound short n, short n))
