-- What a stored word holds: its parts are what went in, and its ones are odd in number.
use Prim.Native.Nat.{ℕ, ◌+◌, ◌*◌, ◌%◌, ◌/◌, ◌<◌}
use native.Mathlib.Omega.{arith}
use native.Mathlib.Nat.{add_comm}
use mathlib.Core.Path.{◌≡◌, refl, ap, ◌∙◌}
use mathlib.Core.Bool.{Bool, true, false, cond}
use lib.Dec.{eqb}
use lib.Count.{ones, ones_in, ones_cat, ones-ones}
use borrow.Author.Tests.{eqb-true, eqb-false, eq-eqb}
use Rattle.ground_location.specs.Location.{data_of, cursor_of, parity_of, written_of, proper_of, good_of, low_of, word_of, fresh_word}

-- a flag as a digit of a number
abbrev flag_digit : Bool → ℕ
flag_digit b = cond b 1 0

digit_lt : (b : Bool) → flag_digit b < 2
digit_lt true = omega arith
digit_lt false = omega arith

scaled : (b : Bool) (mask : ℕ) → cond b mask 0 ≡ mask * flag_digit b
scaled true mask = omega arith
scaled false mask = omega arith

flag : (n : ℕ) (b : Bool) → n ≡ flag_digit b → eqb n 1 ≡ b
flag n true e = rw e
flag n false e = rw e

-- a bit above the low nine is counted apart
raised : (low : ℕ) → low < 512 → ones (low + 512) ≡ 1 + ones low
raised low h = ap ones (add_comm low 512) ∙ ones_cat 9 1 low h ∙ ap (λ (n : ℕ). n + ones low) (ones-ones 1)

odd : (low : ℕ) → low < 512 → (even : Bool) → eqb (ones low % 2) 0 ≡ even → ones (low + cond even 512 0) % 2 ≡ 1
odd low h true e = omega (arith, raised low h, eqb-true (ones low % 2) 0 e)
odd low h false e =
    let z : low + 0 ≡ low = omega arith in
    rw z (let n : ones low % 2 ≡ 0 → ⊥ = eqb-false (ones low % 2) 0 e in omega arith)

module _ (byte : ℕ) (cursor written : Bool) (h : byte < 256) where
  abbrev even : Bool
  even = eqb (ones (low_of byte cursor) % 2) 0

  -- the word as a sum of its data and its digits
  as_sum : word_of byte cursor written ≡ byte + 256 * flag_digit cursor + 512 * flag_digit even + 1024 * flag_digit written
  unfolding word_of
  as_sum = omega (arith, scaled cursor 256, scaled even 512, scaled written 1024)

  pub data_stored : data_of (word_of byte cursor written) ≡ byte
  data_stored = omega (arith, as_sum)

  pub cursor_stored : cursor_of (word_of byte cursor written) ≡ cursor
  cursor_stored = flag (word_of byte cursor written / 256 % 2) cursor (omega (arith, as_sum, digit_lt cursor))

  pub written_stored : written_of (word_of byte cursor written) ≡ written
  written_stored = flag (word_of byte cursor written / 1024 % 2) written (omega (arith, as_sum, digit_lt cursor, digit_lt even, digit_lt written))

  pub proper_stored : proper_of (word_of byte cursor written) ≡ true
  proper_stored = eq-eqb (word_of byte cursor written / 2048) 0 (omega (arith, as_sum, digit_lt cursor, digit_lt even, digit_lt written))

  -- every made word is good
  pub good_stored : good_of (word_of byte cursor written) ≡ true
  good_stored =
      let low : word_of byte cursor written % 1024 ≡ low_of byte cursor + cond even 512 0 =
      omega (arith, as_sum, scaled cursor 256, scaled even 512, digit_lt cursor, digit_lt even)
      in
      eq-eqb _ 1 (ap (λ (n : ℕ). ones n % 2) low ∙ odd (low_of byte cursor) (omega (arith, scaled cursor 256, digit_lt cursor)) even refl)

-- a fresh word is a good word of data 0, with no cursor, and not written
pub fresh_stored : word_of 0 false false ≡ fresh_word
unfolding word_of ones ones_in
fresh_stored = refl

-- 01: "Data 01 with C has P 1; without C, P 0."
pub parity_with_cursor : (written : Bool) → parity_of (word_of 1 true written) ≡ true
unfolding word_of ones ones_in
parity_with_cursor true = refl
parity_with_cursor false = refl

pub parity_without_cursor : (written : Bool) → parity_of (word_of 1 false written) ≡ false
unfolding word_of ones ones_in
parity_without_cursor true = refl
parity_without_cursor false = refl
