-- The codes of characters: which draw, and how each moves the beam.
use Rattle.std.specs.Prelude.{ℕ, Bool, cond, not, ◌||◌, eqb}
use Rattle.unit_beam.specs.declared.Beam.{Beam}
use Rattle.unit_beam.specs.declared.CharacterSize.{CharacterSize}
use Rattle.unit_beam.specs.Beam.{new_line, after_character}

-- "Blank, null and new line draw no character item"; 2A, which 000 p.13, Figure 7, reserves, draws none either
unfoldable pub draws : ℕ → Bool
draws code = not (eqb code 0x00 || (eqb code 0x15 || (eqb code 0x2A || eqb code 0x40)))

-- "After a character or blank, X moves on"; "Code 15 is a new line by itself"; null "does not affect character spacing" (000 p.26)
unfoldable pub after_code : CharacterSize → ℕ → Beam → Beam
after_code size code beam = cond (eqb code 0x00) beam (cond (eqb code 0x15) (new_line size beam) (after_character size beam))
