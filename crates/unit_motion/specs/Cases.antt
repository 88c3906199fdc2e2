-- Worked cases of codes and coordinates: what draws, and where the beam stands behind each.
use Rattle.std.specs.Prelude.{◌≡◌, refl, true, false}
use Rattle.unit_beam.specs.declared.Beam.{Beam}
use Rattle.unit_beam.specs.declared.CharacterSize.{CharacterSize}
use Rattle.unit_beam.specs.Beam.{beam_at, increment, exact_sum, summed, stepped, leaves_screen, blanked_step, new_line, after_character}
use Rattle.ground_orders.specs.declared.Mode.TheVariants as mode
use Rattle.unit_motion.specs.Codes.{draws, after_code}
use Rattle.unit_motion.specs.Motion.{two_of, off_of, beam_after}
use Rattle.unit_motion.specs.declared.Trace.TheVariants as trace
use Rattle.unit_motion.specs.declared.Moved.TheVariants as moved
use Rattle.unit_motion.specs.declared.Motion.TheVariants.{To}

module _ (size : CharacterSize) (beam to : Beam) where
  pub record MotionCases : Type 0 where
    -- "Blank, null and new line draw no character item"; 2A is reserved (000 p.13, Figure 7)
    pub null_unseen : draws 0x00 ≡ false
    pub new_line_unseen : draws 0x15 ≡ false
    pub reserved_unseen : draws 0x2A ≡ false
    pub blank_unseen : draws 0x40 ≡ false
    pub letter_seen : draws 0xC1 ≡ true
    -- null "does not affect character spacing" (000 p.26); "Code 15 is a new line by itself"; "After a character or blank, X moves on"
    pub null_stays : after_code size 0x00 beam ≡ beam
    pub new_line_falls : after_code size 0x15 beam ≡ new_line size beam
    pub blank_spaces : after_code size 0x40 beam ≡ after_character size beam
    pub letter_spaces : after_code size 0xC1 beam ≡ after_character size beam
    -- "whether the exact sum left 0 to 1,023" (02, C-19): 1,000 and 63, and from there; an absolute coordinate lies on the screen
    pub leaves : two_of mode.IncrementalVector 0x7F 0x00 (beam_at 1000 5) ≡ To (moved.Increment true) trace.Vector (beam_at 39 5)
    pub stays : two_of mode.IncrementalPoint 0x7F 0x00 (beam_at 39 5) ≡ To (moved.Increment false) trace.Point (beam_at 102 5)
    pub coordinate_stays : off_of moved.Absolute ≡ false
    -- "Blanked coordinates move the beam"
    pub blanked_moves : beam_after (To moved.Absolute trace.Blanked to) beam ≡ to

  pub motion_cases : MotionCases
  unfolding draws after_code beam_after two_of increment exact_sum summed stepped leaves_screen blanked_step
  motion_cases =
      record {
        null_unseen = refl;
        new_line_unseen = refl;
        reserved_unseen = refl;
        blank_unseen = refl;
        letter_seen = refl;
        null_stays = refl;
        new_line_falls = refl;
        blank_spaces = refl;
        letter_spaces = refl;
        leaves = refl;
        stays = refl;
        coordinate_stays = refl;
        blanked_moves = refl;
      }
