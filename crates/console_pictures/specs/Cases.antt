-- Worked lines of drawn items, each by its eight numbers.
use Rattle.std.specs.Prelude.{◌≡◌}
use Rattle.text_put.specs.Text.{spelled}
use Rattle.console_pictures.specs.Pictures.{item_line}

pub record LineCases : Type 0 where
  pub point : item_line 1 5 6 5 6 0 0 10 ≡ spelled "point 5 6 at 10\n"
  pub vector : item_line 2 39 5 40 5 0 0 12 ≡ spelled "vector 39 5 40 5 at 12\n"
  -- `off` before `at` where the screen was left (02, C-19)
  pub point_off : item_line 1 99 4 99 4 1 0 26 ≡ spelled "point 99 4 off at 26\n"
  pub vector_off : item_line 2 1000 5 39 5 1 0 8 ≡ spelled "vector 1000 5 39 5 off at 8\n"
  -- a character's code is its own, 1 too
  pub character : item_line 3 5 6 5 6 1 1 10 ≡ spelled "character 5 6 code 01 basic at 10\n"
  pub cursor : item_line 4 5 6 5 6 0xC1 2 11 ≡ spelled "cursor 5 6 code C1 large at 11\n"
