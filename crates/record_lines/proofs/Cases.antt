-- The lines that 01 prints or names, letter by letter.
use Rattle.std.specs.Prelude.{◌≡◌, refl}
use Rattle.text_put.specs.Text.{spelled, decimal_in}
use Rattle.record_lines.specs.Lines.{passed_line, fault_line, refused_line}

pub fault_line_lem : fault_line 1 1 6 3 ≡ spelled "1 fault 1 at 6 after 3\n"
unfolding decimal_in
fault_line_lem = refl

pub refused_line_lem : refused_line 2 3 ≡ spelled "2 refused 3\n"
unfolding decimal_in
refused_line_lem = refl

pub a_whole_buffer : passed_line 10 2048 ≡ spelled "10 passed 2048\n"
unfolding decimal_in
a_whole_buffer = refl
