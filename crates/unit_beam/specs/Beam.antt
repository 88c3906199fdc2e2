-- The beam (01, "Beam"): absolute coordinates, increments, spacings, new line.
use Rattle.std.specs.Prelude.{ℕ, ◌+◌, ◌-◌, ◌*◌, ◌/◌, ◌%◌, Bool, true, cond, ◌||◌, eqb, leb, ltb, ℤ, pos, negsuc, ◌+ℤ◌}
use Rattle.std.proofs.Math.IntN.{sub_ℕ}
use Rattle.unit_beam.specs.declared.Beam.{Beam}
use Rattle.unit_beam.specs.declared.Sum.{Sum}
use Rattle.unit_beam.specs.declared.Shift.{Shift}
use Rattle.unit_beam.specs.declared.CharacterSize.{CharacterSize}
use Rattle.unit_beam.specs.declared.CharacterSize.TheVariants.{Basic, Large}

-- "X and Y have ten bits."
abbrev pub ten_bits : ℕ → ℕ
ten_bits c = c % 1024

abbrev pub beam_at : ℕ → ℕ → Beam
beam_at x y = record { x = x; y = y }

-- "An absolute coordinate is twelve bits, its two lowest dropped": four bits of the first byte and all of the second (000 p.23)
abbrev pub absolute : ℕ → ℕ → ℕ
absolute high low = (high % 16 * 256 + low) / 4

unfoldable pub placed : ℕ → ℕ → ℕ → ℕ → Beam
placed xh xl yh yl = beam_at (absolute xh xl) (absolute yh yl)

-- bit 1 of the first X byte, mask 40, blanks the beam (000 p.23)
unfoldable pub blanked_place : ℕ → Bool
blanked_place xh = eqb (xh / 64 % 2) 1

-- "An increment is bits 0 to 6 of its byte as a signed number, -64 to 63": seven bits, less 128 where bit 0, the sign, is set
unfoldable pub increment : ℕ → ℤ
increment b = cond (ltb b 128) (pos (b / 2)) (sub_ℕ (b / 2) 128)

-- the exact sum of a coordinate and an increment, which may lie off the screen
unfoldable pub exact_sum : ℕ → ℕ → ℤ
exact_sum c b = pos (ten_bits c) +ℤ increment b

-- "The sum keeps ten bits": they are cut from it; -1 is 1,023
abbrev pub cut_ten : ℤ → ℕ
cut_ten (pos n) = ten_bits n
cut_ten (negsuc n) = 1023 - ten_bits n

unfoldable pub summed : ℕ → ℕ → ℕ
summed c b = cut_ten (exact_sum c b)

unfoldable pub stepped : Beam → ℕ → ℕ → Beam
stepped p dx dy = beam_at (summed p.x dx) (summed p.y dy)

-- "whether the exact sum left 0 to 1,023" (02, C-19)
abbrev pub off_screen : ℤ → Bool
off_screen (pos n) = ltb 1023 n
off_screen (negsuc n) = true

-- ".. in X or Y" (02, C-19)
unfoldable pub leaves_screen : Beam → ℕ → ℕ → Bool
leaves_screen p dx dy = off_screen (exact_sum p.x dx) || off_screen (exact_sum p.y dy)

-- "The addition of an increment shall also say" so (02, C-19): in one coordinate, and for the beam
abbrev pub sum_of : ℕ → ℕ → Sum
sum_of c b = record { cut = summed c b; off = off_screen (exact_sum c b) }

unfoldable pub shifted : Beam → ℕ → ℕ → Shift
shifted p dx dy = record { to = stepped p dx dy; off = leaves_screen p dx dy }

-- bit 7 of the Y byte blanks the beam (000 p.25 and p.26, Figure 10)
unfoldable pub blanked_step : ℕ → Bool
blanked_step dy = eqb (dy % 2) 1

-- "large (1-1/2 times the basic)" (001 1-8): a distance of basic characters as it is in a size
abbrev pub spaced : CharacterSize → ℕ → ℕ
spaced Basic basic = basic
spaced Large basic = basic * 3 / 2

-- "Basic characters stand 14 apart and 20 down" (000 p.27, Figure 11)
abbrev pub across : CharacterSize → ℕ
across size = spaced size 14

abbrev pub down : CharacterSize → ℕ
down size = spaced size 20

-- "Y down, and below 0 Y becomes 1,023 (house)"
unfoldable pub line_below : ℕ → ℕ → ℕ
line_below y distance = cond (leb distance y) (y - distance) 1023

-- "a new line follows: X 0, Y down"
unfoldable pub new_line : CharacterSize → Beam → Beam
new_line size p = beam_at 0 (line_below (ten_bits p.y) (down size))

-- "After a character or blank, X moves on; past 1,023 a new line follows"
unfoldable pub after_character : CharacterSize → Beam → Beam
after_character size p =
    cond (leb (ten_bits p.x + across size) 1023) (beam_at (ten_bits p.x + across size) (ten_bits p.y)) (new_line size p)

-- A coordinate in the absolute format: its four highest bits, then its six lowest, two zeros behind them (000 p.20, Read XY)
abbrev pub high_byte : ℕ → ℕ
high_byte c = ten_bits c / 64

abbrev pub low_byte : ℕ → ℕ
low_byte c = ten_bits c % 64 * 4
