-- The beam stays within ten bits. Assumes nothing.
use Prim.Native.Nat.{ℕ, ◌+◌, ◌-◌, ◌<◌}
use native.Mathlib.Omega.{arith}
use mathlib.Core.Path.{◌≡◌, refl}
use mathlib.Core.Bool.{Bool, true, false, cond}
use lib.Dec.{eqb, leb}
use lib.IntN.{ℤ, pos, negsuc}
use borrow.Author.Tests.{leb-true}
use Rattle.unit_beam.specs.declared.Beam.{Beam}
use Rattle.unit_beam.specs.declared.CharacterSize.{CharacterSize}
use Rattle.unit_beam.specs.Beam.{ten_bits, across, down, beam_at, placed, exact_sum, cut_ten, summed, stepped, line_below, new_line, after_character}
use Rattle.unit_motion.specs.Codes.{after_code}
use Rattle.unit_motion.specs.declared.Motion.{Motion}
use Rattle.unit_motion.specs.declared.Motion.TheVariants.{Still, To, Codes}
use Rattle.unit_motion.specs.Motion.{beam_after}
use Rattle.ground_words.proofs.Laws.{either_way}
use Rattle.theorem_wellmade.specs.WellMade.{BeamMade}

pub placed_made : (xh xl yh yl : ℕ) → xl < 256 → yl < 256 → BeamMade (placed xh xl yh yl)
unfolding placed
placed_made xh xl yh yl h l = record { x = omega arith; y = omega arith }

cut_inside : (z : ℤ) → cut_ten z < 1024
cut_inside (pos n) = omega arith
cut_inside (negsuc n) = omega arith

pub stepped_made : (b : Beam) (dx dy : ℕ) → BeamMade (stepped b dx dy)
unfolding stepped summed
stepped_made b dx dy = record { x = cut_inside (exact_sum b.x dx); y = cut_inside (exact_sum b.y dy) }

line_inside : (y distance : ℕ) (t : Bool) → y < 1024 → cond t (y - distance) 1023 < 1024
line_inside y distance true h = omega arith
line_inside y distance false h = omega arith

new_line_made : (size : CharacterSize) (b : Beam) → BeamMade (new_line size b)
unfolding new_line line_below
new_line_made size b = record { x = omega arith; y = line_inside (ten_bits b.y) (down size) (leb (down size) (ten_bits b.y)) (omega arith) }

character_by : (size : CharacterSize) (b : Beam) (t : Bool) → leb (ten_bits b.x + across size) 1023 ≡ t → BeamMade (cond t (beam_at (ten_bits b.x + across size) (ten_bits b.y)) (new_line size b))
character_by size b true e = record { x = omega (arith, leb-true (ten_bits b.x + across size) 1023 e); y = omega arith }
character_by size b false e = new_line_made size b

pub after_code_made : (size : CharacterSize) (code : ℕ) (b : Beam) → BeamMade b → BeamMade (after_code size code b)
unfolding after_code after_character
after_code_made size code b m =
    either_way BeamMade (eqb code 0x00) m
    (either_way BeamMade (eqb code 0x15) (new_line_made size b) (character_by size b (leb (ten_bits b.x + across size) 1023) refl))

-- where a step's motion leads
abbrev pub MotionMade : Motion → Type 0
MotionMade Still = Unit {0}
MotionMade (To k t to) = BeamMade to
MotionMade (Codes s a b) = Unit {0}

pub beam_after_made : (m : Motion) (b : Beam) → MotionMade m → BeamMade b → BeamMade (beam_after m b)
unfolding beam_after
beam_after_made Still b h m = m
beam_after_made (To k t to) b h m = h
beam_after_made (Codes s a c) b h m = after_code_made s c (after_code s a b) (after_code_made s a b m)
