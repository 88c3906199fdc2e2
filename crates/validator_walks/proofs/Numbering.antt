-- Places and their numbers: each is the other's inverse on the places of a buffer. Laws over the size. Assumes nothing.
use mathlib.Core.Path.{◌≡◌, refl, ap, ◌∙◌}
use Prim.Native.Nat.{ℕ, zero, suc, ◌*◌, ◌/◌, ◌%◌, ◌<◌}
use native.Mathlib.Nat.{mod-lt, div-add-mod', div-lt_iff_lt-mul}
use native.Mathlib.Omega.{arith}
use lib.Arith.{digits_lt, digits_div, digits_mod}
use Rattle.ground_setup.specs.Setup.{size_of}
use Rattle.ground_setup.proofs.Laws.{sane}
use Rattle.ground_setup.specs.declared.Size.{Size}
use Rattle.ground_orders.specs.declared.Mode.{Mode}
use Rattle.ground_orders.specs.declared.Mode.TheVariants.{Idle, Point, Vector, IncrementalPoint, IncrementalVector, Basic, Large}
use Rattle.validator_walks.specs.Places.{mode_number, place, Proper, half_of, places_of, number_of, mode_of, address_of, place_of}
use Rattle.validator_walks.specs.declared.Place.{Place}

-- the modes
pub mode_lt : (m : Mode) → mode_number m < 7
mode_lt Idle = omega arith
mode_lt Point = omega arith
mode_lt Vector = omega arith
mode_lt IncrementalPoint = omega arith
mode_lt IncrementalVector = omega arith
mode_lt Basic = omega arith
mode_lt Large = omega arith

mode_of_number : (m : Mode) → mode_of (mode_number m) ≡ m
mode_of_number Idle = refl
mode_of_number Point = refl
mode_of_number Vector = refl
mode_of_number IncrementalPoint = refl
mode_of_number IncrementalVector = refl
mode_of_number Basic = refl
mode_of_number Large = refl

number_of_mode : (n : ℕ) → n < 7 → mode_number (mode_of n) ≡ n
number_of_mode zero h = refl
number_of_mode (suc zero) h = refl
number_of_mode (suc (suc zero)) h = refl
number_of_mode (suc (suc (suc zero))) h = refl
number_of_mode (suc (suc (suc (suc zero)))) h = refl
number_of_mode (suc (suc (suc (suc (suc zero))))) h = refl
number_of_mode (suc (suc (suc (suc (suc (suc zero)))))) h = refl
number_of_mode (suc (suc (suc (suc (suc (suc (suc n))))))) h = absurd (omega arith)

module _ (size : Size) where
  pub half_positive : 0 < half_of size
  half_positive = omega (arith, sane size)

  pub address_lt : (n : ℕ) → address_of size n < size_of size
  address_lt n = omega (arith, sane size, mod-lt n half_positive)

  -- every number below is a place's, whose number it is
  pub place_proper : (n : ℕ) → Proper size (place_of size n)
  place_proper n = record { even = omega arith; inside = address_lt n }

  pub number_of_place : (n : ℕ) → n < places_of size → number_of size (place_of size n) ≡ n
  number_of_place n h =
      let block : n / half_of size < 7 = (div-lt_iff_lt-mul half_positive).1 h in
      let index : 2 * (n % half_of size) / 2 ≡ n % half_of size = omega arith in
      rw (number_of_mode (n / half_of size) block, index) (div-add-mod' n (half_of size))

  -- every place of the buffer has a number, whose place it is
  module _ (p : Place) (P : Proper size p) where
    index_lt : p.at / 2 < half_of size
    index_lt = omega (arith, P.inside, sane size)

    pub number_lt : number_of size p < places_of size
    number_lt = digits_lt (mode_lt p.mode) index_lt

    pub place_of_number : place_of size (number_of size p) ≡ p
    place_of_number =
        let a : address_of size (number_of size p) ≡ p.at = ap (λ (i : ℕ). 2 * i) (digits_mod (mode_number p.mode) index_lt) ∙ omega (arith, P.even) in
        let m : mode_of (number_of size p / half_of size) ≡ p.mode = ap mode_of (digits_div (mode_number p.mode) index_lt) ∙ mode_of_number p.mode in
        ap (λ (x : ℕ). place x (mode_of (number_of size p / half_of size))) a ∙ ap (place p.at) m

  -- the idle places come first
  pub idle_lt : (a : ℕ) → a < size_of size → number_of size (place a Idle) < half_of size
  idle_lt a h = omega (arith, sane size)
