-- The fewest decimal digits that hold a number, as `io::decimal` gives them, are the number in decimal.
use Prim.Native.Nat.{ℕ, zero, suc, ◌+◌, ◌-◌, ◌/◌, ◌%◌, ◌^◌, ◌≤◌, ◌<◌}
use mathlib.Core.Path.{◌≡◌, refl, ap, subst}
use mathlib.Core.Bool.{Bool, true, false, cond}
use mathlib.Core.List.{List, [], ◌∷◌, ◌++◌}
use native.Mathlib.Decide.{dec_lt}
use native.Mathlib.Omega.{arith}
use native.Mathlib.Nat.{pow-suc, one-le-pow, pow-le-pow_right}
use lib.ListN.{length, length-append}
use lib.Dec.{ltb}
use borrow.Author.Tests.{lt-ltb, le-ltb}
use Rattle.io.specs.Digits.{last_digits, IsDigitCount}
use Rattle.text_put.specs.Text.{decimal_in}

-- with `k` digits, of which the first is none but where it is alone
spell : (most k n : ℕ) → k ≤ most → 0 < k → n < 10 ^ k → ((j : ℕ) → k ≡ suc (suc j) → 10 ^ suc j ≤ n)
    → last_digits 10 k n ≡ decimal_in most n
unfolding decimal_in
spell zero k n within some high low = absurd (omega arith)
spell (suc most) zero n within some high low = absurd (omega arith)
spell (suc most) (suc zero) n within some high low =
    let small : n < 10 = high in
    let itself : n % 10 ≡ n = omega arith in
    simp (itself, lt-ltb n 10 small)
spell (suc most) (suc (suc k)) n within some high low =
    let first : 10 ^ suc k ≤ n = low k refl in
    let large : ltb n 10 ≡ false = le-ltb n 10 (omega (arith, pow-suc 10 k, one-le-pow k 10 (omega arith))) in
    let digit : ltb (n % 10) 10 ≡ true = lt-ltb (n % 10) 10 (omega arith) in
    let rest : last_digits 10 (suc k) (n / 10) ≡ decimal_in most (n / 10) =
    spell most (suc k) (n / 10) (omega arith) (omega arith) (omega (arith, pow-suc 10 (suc k)))
    (λ j e. omega (arith, pow-suc 10 k, ap (λ (x : ℕ). 10 ^ x) e, pow-suc 10 (suc j))) in
    simp (large, digit, rest)

-- a number of 64 bits has no twenty-first digit
twenty : (n k : ℕ) → n < 18446744073709551616 → IsDigitCount 10 1 n k → k ≤ 20
twenty n k small few =
    elim (dec_lt 20 k) [
      | yes more ↦
          let h : 10 ^ 20 ≤ 10 ^ (k - 1) = pow-le-pow_right {n = 10} (omega arith) {i = 20} {j = k - 1} (omega arith) in
          absurd (omega (arith, few.2 (omega arith)))
      | no within ↦ omega arith
    ]

pub decimal : (n k : ℕ) → n < 18446744073709551616 → IsDigitCount 10 1 n k → last_digits 10 k n ≡ decimal_in 20 n
decimal n k small few =
    spell 20 k n (twenty n k small few) few.0 few.1
    (λ j e. subst (λ (x : ℕ). 10 ^ x ≤ n) (omega arith) (few.2 (omega arith)))

one_more : (most n : ℕ) (rest : List ℕ) (small : Bool) → length rest ≤ most
    → length (cond small ((48 + n) ∷ []) (rest ++ ((48 + n % 10) ∷ []))) ≤ suc most
one_more most n rest true h = omega arith
one_more most n rest false h = rw (length-append rest ((48 + n % 10) ∷ [])) (omega arith)

pub length_decimal : (most n : ℕ) → length (decimal_in most n) ≤ most
unfolding decimal_in
length_decimal zero n = omega arith
length_decimal (suc most) n = one_more most n (decimal_in most (n / 10)) (ltb n 10) (length_decimal most (n / 10))
