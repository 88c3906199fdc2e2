-- "Basic characters stand 14 apart and 20 down, large 21 and 30" (01; 000 p.27, Figure 11): the second pair, worked out from the
-- first (02, C-14), is 01's, and so every place on the screen.
use Rattle.std.specs.Prelude.{◌≡◌, refl}
use Rattle.unit_beam.specs.declared.CharacterSize.TheVariants.{Basic, Large}
use Rattle.unit_beam.specs.Beam.{across, down}

pub record Spacings : Type 0 where
  pub basic_across : across Basic ≡ 14
  pub basic_down : down Basic ≡ 20
  pub large_across : across Large ≡ 21
  pub large_down : down Large ≡ 30

pub spacings : Spacings
spacings = record { basic_across = refl; basic_down = refl; large_across = refl; large_down = refl }
