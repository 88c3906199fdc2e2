-- Arguments and reads at the edges of what is taken.
use Rattle.std.specs.Prelude.{◌≡◌, refl, [], Ok, Err}
use Rattle.std.specs.declared.ops.ControlFlow.TheVariants.{Break}
use Rattle.text_input.specs.declared.Came.TheVariants as came
use Rattle.text_parse.specs.Parse.{number_from}
use Rattle.text_put.specs.Text.{spelled}
use Rattle.wrap.specs.Wrap.{asked_of, read_on}
use Rattle.wrap.specs.declared.Complaint.TheVariants.{Usage, Size, Start, Long, Failed}

pub largest_asked : asked_of 3 (spelled "65535") (spelled "0") ≡ Ok (record { size = 65535; start = 0 })
unfolding number_from
largest_asked = refl

pub size_of_three_bytes : asked_of 3 (spelled "65536") (spelled "0") ≡ Err Size
unfolding number_from
size_of_three_bytes = refl

pub start_of_six_digits : asked_of 3 (spelled "4096") (spelled "000000") ≡ Err Start
unfolding number_from
start_of_six_digits = refl

pub start_left_out : asked_of 2 (spelled "4096") [] ≡ Err Usage
start_left_out = refl

pub largest_image : read_on 65536 65535 came.End ≡ Break (Ok 65535)
largest_image = refl

pub one_byte_more : read_on 65536 65535 (came.Bytes 1) ≡ Break (Err Long)
one_byte_more = refl

pub cut_off : read_on 65536 100 came.Failed ≡ Break (Err Failed)
cut_off = refl
