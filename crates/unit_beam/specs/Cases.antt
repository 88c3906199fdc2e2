-- Worked cases of increments that leave the screen (02, C-19): where the beam then stands, and whether an exact sum left 0 to 1,023.
use Rattle.std.specs.Prelude.{◌≡◌, refl, Bool, true, false}
use Rattle.unit_beam.specs.declared.Beam.{Beam}
use Rattle.unit_beam.specs.declared.Shift.{Shift}
use Rattle.unit_beam.specs.Beam.{beam_at, increment, exact_sum, summed, stepped, leaves_screen, shifted}

abbrev goes_to : Beam → Bool → Shift
goes_to to off = record { to = to; off = off }

pub record OffCases : Type 0 where
  -- X 1,000 and 63 are 1,063, of which 39 is kept
  pub right : shifted (beam_at 1000 5) 0x7E 0x00 ≡ goes_to (beam_at 39 5) true
  pub left : shifted (beam_at 0 5) 0xFE 0x00 ≡ goes_to (beam_at 1023 5) true
  pub at_the_edge : shifted (beam_at 1023 1023) 0x00 0x00 ≡ goes_to (beam_at 1023 1023) false
  pub up_to_the_edge : shifted (beam_at 960 0) 0x7E 0x00 ≡ goes_to (beam_at 1023 0) false
  pub one_too_far : shifted (beam_at 961 0) 0x7E 0x00 ≡ goes_to (beam_at 0 0) true
  pub down_to_the_edge : shifted (beam_at 64 64) 0x80 0x80 ≡ goes_to (beam_at 0 0) false
  -- X inside and Y outside, and the other way round
  pub above : shifted (beam_at 500 1023) 0x02 0x02 ≡ goes_to (beam_at 501 0) true
  pub below : shifted (beam_at 500 0) 0xFE 0x80 ≡ goes_to (beam_at 499 960) true
  pub beside : shifted (beam_at 1023 500) 0x02 0x02 ≡ goes_to (beam_at 0 501) true
  -- a corner where both leave
  pub corner : shifted (beam_at 1023 0) 0x02 0xFE ≡ goes_to (beam_at 0 1023) true

pub off_cases : OffCases
unfolding increment exact_sum summed stepped leaves_screen shifted
off_cases =
    record {
      right = refl;
      left = refl;
      at_the_edge = refl;
      up_to_the_edge = refl;
      one_too_far = refl;
      down_to_the_edge = refl;
      above = refl;
      below = refl;
      beside = refl;
      corner = refl;
    }
