-- One digit more of a number.
use Prim.Native.Nat.{ℕ, ◌+◌, ◌*◌, ◌-◌, ◌≤◌, ◌<◌, ◌^◌}
use mathlib.Core.Path.{◌≡◌, refl}
use mathlib.Core.Bool.{Bool, true, false, ◌&&◌}
use mathlib.Core.List.{List}
use native.Mathlib.Omega.{arith}
use native.Mathlib.Numerals.{add-one}
use native.Mathlib.Nat.{pow-le-pow_right}
use lib.ListN.{length, get_or, drop}
use lib.Seq.{drop-cons}
use lib.Dec.{leb}
use borrow.Author.Tests.{leb-true}
use Rattle.text_parse.specs.Parse.{digit, number_from}
use Rattle.std.proofs.Common.{None}

both : (x y : Bool) → (x && y) ≡ true → (x ≡ true) × (y ≡ true)
both true true e = (refl, refl)
both true false e = (refl, e)
both false true e = (e, refl)
both false false e = (e, e)

pub digit_from : (byte : ℕ) → digit byte ≡ true → 48 ≤ byte
digit_from byte e = leb-true 48 byte (both (leb 48 byte) (leb byte 57) e).0

pub digit_to : (byte : ℕ) → digit byte ≡ true → byte ≤ 57
digit_to byte e = leb-true byte 57 (both (leb 48 byte) (leb byte 57) e).1

-- five digits are below 100,000
pub small : (i : ℕ) → i < 5 → 10 ^ i ≤ 10000
small i h = pow-le-pow_right {n = 10} (omega arith) {i = i} {j = 4} (omega arith)

module _ (n : ℕ) (text : List ℕ) (i : ℕ) (more : i < length text) where
  pub no_digit : digit (get_or text i 0) ≡ false → number_from n (drop i text) ≡ None
  unfolding number_from
  no_digit e = rw (drop-cons text i 0, e)

  pub one_digit : digit (get_or text i 0) ≡ true
      → number_from n (drop i text) ≡ number_from (n * 10 + (get_or text i 0 - 48)) (drop (i + 1) text)
  unfolding number_from
  one_digit e = rw (add-one, drop-cons text i 0, e)
