-- The worked lines of `specs/Cases.antt` hold.
use Rattle.std.specs.Prelude.{refl}
use Rattle.text_put.specs.Text.{decimal_in}
use Rattle.console_pictures.specs.Pictures.{item_line}
use Rattle.console_pictures.specs.Cases.{LineCases}

pub line_cases : LineCases
unfolding item_line decimal_in
line_cases = record { point = refl; vector = refl; point_off = refl; vector_off = refl; character = refl; cursor = refl }
