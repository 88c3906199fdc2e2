-- 01's measured cases of coordinates, increments and spacings, one table over the definitions; and that Read XY's bytes are the beam's coordinates.
use Rattle.std.specs.Prelude.{ℕ, ◌≡◌, refl, pos, neg_ℤ}
use Rattle.std.proofs.Common.{arith}
use Rattle.unit_beam.specs.declared.CharacterSize.TheVariants.{Basic, Large}
use Rattle.unit_beam.specs.Beam.{ten_bits, beam_at, absolute, increment, line_below, new_line, after_character, high_byte, low_byte}

pub record Starred : Type 0 where
  pub x_0003 : absolute 0x00 0x03 ≡ 0
  pub x_0004 : absolute 0x00 0x04 ≡ 1
  pub x_0_fFF : absolute 0x0F 0xFF ≡ 1023
  pub plus_63 : increment 0x7E ≡ pos 63
  pub minus_64 : increment 0x80 ≡ neg_ℤ (pos 64)
  pub minus_1 : increment 0xFE ≡ neg_ℤ (pos 1)
  pub basic_1008 : after_character Basic (beam_at 1008 500) ≡ beam_at 1022 500
  pub basic_1022 : after_character Basic (beam_at 1022 500) ≡ beam_at 0 480
  pub large_1008 : after_character Large (beam_at 1008 500) ≡ beam_at 0 470
  -- "below 0 Y becomes 1,023 (house)"
  pub bottom_line : new_line Basic (beam_at 700 20) ≡ beam_at 0 0
  pub below_bottom : new_line Basic (beam_at 700 19) ≡ beam_at 0 1023

pub starred : Starred
unfolding increment after_character new_line line_below
starred =
    record {
      x_0003 = refl;
      x_0004 = refl;
      x_0_fFF = refl;
      plus_63 = refl;
      minus_64 = refl;
      minus_1 = refl;
      basic_1008 = refl;
      basic_1022 = refl;
      large_1008 = refl;
      bottom_line = refl;
      below_bottom = refl;
    }

-- what Read XY gives, taken as an absolute coordinate, is the coordinate
pub given_back : (c : ℕ) → absolute (high_byte c) (low_byte c) ≡ ten_bits c
given_back c = omega arith
