-- Worked cases of what a step draws: each kind of item, what is blanked, codes that draw nothing, and sights. The step is at 10 of 4,096 locations.
use Rattle.std.specs.Prelude.{ℕ, ◌≡◌, refl, Bool, true, false, List, [], ◌∷◌, None, Option, Some}
use Rattle.unit_beam.specs.declared.Beam.{Beam}
use Rattle.unit_beam.specs.declared.CharacterSize.TheVariants as size
use Rattle.unit_beam.specs.Beam.{beam_at, placed, blanked_place, increment, exact_sum, summed, stepped, leaves_screen, blanked_step, line_below, new_line, after_character}
use Rattle.ground_setup.specs.declared.Size.TheVariants.{K4}
use Rattle.ground_orders.specs.declared.Mode.{Mode}
use Rattle.ground_orders.specs.declared.Mode.TheVariants as mode
use Rattle.ground_look.specs.declared.Look.{Look}
use Rattle.ground_look.specs.declared.Look.TheVariants as look
use Rattle.unit_items.specs.declared.Item.{Item}
use Rattle.unit_items.specs.declared.Item.TheVariants.{Point, Vector, Character, Cursor}
use Rattle.unit_motion.specs.Codes.{draws, after_code}
use Rattle.unit_motion.specs.Motion.{two_of, four_of, motion_of, beam_after}
use Rattle.unit_drawing.specs.declared.Hit.{Hit}
use Rattle.unit_drawing.specs.Drawing.{shows_cursor, has_cursor, code_strokes, codes_strokes, strokes_of, upto, hit, hit_in}

-- the items that a look draws in a mode from where the beam stands, by the cursor bits and the sight
abbrev items : Look → Mode → Beam → Bool → Bool → ℕ → List Item
items l m beam c0 c1 sight = upto sight (strokes_of (motion_of l m beam) beam c0 c1 K4 10)

abbrev leaves : Look → Mode → Beam → Beam
leaves l m beam = beam_after (motion_of l m beam) beam

abbrev sighted : Look → Mode → Beam → ℕ → Option Hit
sighted l m beam sight = hit_in sight (strokes_of (motion_of l m beam) beam false false K4 10)

-- X 0200, Y 0400, unblanked and blanked
abbrev shown : Look
shown = look.Four 0x02 0x00 0x04 0x00 14

abbrev hidden : Look
hidden = look.Four 0x42 0x00 0x04 0x00 14

abbrev codes : ℕ → ℕ → Look
codes a b = look.Two a b 12

pub record Worked : Type 0 where
  pub point : items shown mode.Point (beam_at 3 5) false false 0 ≡ Point 128 256 false 10 ∷ []
  pub point_blanked : items hidden mode.Point (beam_at 3 5) false false 0 ≡ []
  pub blanked_moves : leaves hidden mode.Point (beam_at 3 5) ≡ beam_at 128 256
  pub vector : items shown mode.Vector (beam_at 3 5) false false 0 ≡ Vector 3 5 128 256 false 10 ∷ []
  pub vector_blanked : items hidden mode.Vector (beam_at 3 5) false false 0 ≡ []
  pub no_length : items shown mode.Vector (beam_at 128 256) false false 0 ≡ Vector 128 256 128 256 false 10 ∷ []
  pub increments : items (codes 0x7F 0x80) mode.IncrementalVector (beam_at 1000 10) false false 0 ≡ Vector 1000 10 39 970 true 10 ∷ []
  pub increments_inside : items (codes 0x7F 0x80) mode.IncrementalPoint (beam_at 39 970) false false 0 ≡ Point 102 906 false 10 ∷ []
  pub off_above : items (codes 0x01 0x7E) mode.IncrementalPoint (beam_at 39 970) false false 0 ≡ Point 39 9 true 10 ∷ []
  pub increments_blanked : items (codes 0x7F 0x81) mode.IncrementalPoint (beam_at 1000 10) false false 0 ≡ []
  pub idle : items (codes 0xC1 0xC2) mode.Idle (beam_at 3 5) true true 0 ≡ []
  pub characters : items (codes 0xC1 0xC2) mode.Large (beam_at 0 1023) false false 0 ≡ Character size.Large 0 1023 0xC1 10 ∷ Character size.Large 21 1023 0xC2 11 ∷ []
  pub character_at_the_edge : items (codes 0xC1 0x40) mode.Basic (beam_at 1020 500) false false 0 ≡ Character size.Basic 1020 500 0xC1 10 ∷ []
  pub cursor : items (codes 0xC1 0xC2) mode.Basic (beam_at 0 1023) true false 0 ≡ Character size.Basic 0 1023 0xC1 10 ∷ Cursor size.Basic 0 1023 0xC1 10 ∷ Character size.Basic 14 1023 0xC2 11 ∷ []
  pub cursor_on_blank : items (codes 0x40 0xC2) mode.Basic (beam_at 0 1023) true false 0 ≡ Cursor size.Basic 0 1023 0x40 10 ∷ Character size.Basic 14 1023 0xC2 11 ∷ []
  pub cursor_on_null : items (codes 0x00 0xC2) mode.Basic (beam_at 0 1023) true false 0 ≡ Character size.Basic 0 1023 0xC2 11 ∷ []
  pub cursor_on_new_line : items (codes 0x15 0xC2) mode.Basic (beam_at 700 1023) true false 0 ≡ Character size.Basic 0 1003 0xC2 11 ∷ []
  pub odd_2_a : items (codes 0xC1 0x2A) mode.Basic (beam_at 0 1023) false true 0 ≡ Character size.Basic 0 1023 0xC1 10 ∷ Cursor size.Basic 14 1023 0x2A 11 ∷ []
  pub odd_2_a_spaces : leaves (codes 0xC1 0x2A) mode.Basic (beam_at 0 1023) ≡ beam_at 28 1023
  pub first_seen : items (codes 0xC1 0xC2) mode.Basic (beam_at 0 1023) true false 1 ≡ Character size.Basic 0 1023 0xC1 10 ∷ []
  pub first_struck : sighted (codes 0xC1 0xC2) mode.Basic (beam_at 1022 500) 1 ≡ Some (hit 10 (beam_at 0 480))
  pub second_seen : items (codes 0xC1 0xC2) mode.Basic (beam_at 0 1023) true true 2 ≡ Character size.Basic 0 1023 0xC1 10 ∷ Cursor size.Basic 0 1023 0xC1 10 ∷ Character size.Basic 14 1023 0xC2 11 ∷ []
  pub second_struck : sighted (codes 0xC1 0xC2) mode.Basic (beam_at 0 1023) 2 ≡ Some (hit 11 (beam_at 28 1023))
  pub first_is_second : sighted (codes 0x40 0xC2) mode.Basic (beam_at 0 1023) 1 ≡ Some (hit 11 (beam_at 28 1023))
  pub no_second : sighted (codes 0x40 0xC2) mode.Basic (beam_at 0 1023) 2 ≡ None
  pub vector_struck : sighted shown mode.Vector (beam_at 3 5) 1 ≡ Some (hit 10 (beam_at 128 256))

pub worked : Worked
unfolding placed blanked_place increment exact_sum summed stepped leaves_screen blanked_step line_below new_line after_character draws after_code two_of four_of motion_of beam_after shows_cursor has_cursor code_strokes codes_strokes strokes_of upto hit_in
worked =
    record {
      point = refl;
      point_blanked = refl;
      blanked_moves = refl;
      vector = refl;
      vector_blanked = refl;
      no_length = refl;
      increments = refl;
      increments_inside = refl;
      off_above = refl;
      increments_blanked = refl;
      idle = refl;
      characters = refl;
      character_at_the_edge = refl;
      cursor = refl;
      cursor_on_blank = refl;
      cursor_on_null = refl;
      cursor_on_new_line = refl;
      odd_2_a = refl;
      odd_2_a_spaces = refl;
      first_seen = refl;
      first_struck = refl;
      second_seen = refl;
      second_struck = refl;
      first_is_second = refl;
      no_second = refl;
      vector_struck = refl;
    }
