-- No line is longer than 128 bytes.
use Prim.Native.Nat.{ℕ, ◌+◌, ◌≤◌}
use mathlib.Core.List.{List}
use native.Mathlib.Omega.{arith}
use lib.ListN.{length, length-append}
use Rattle.text_put.specs.Text.{spelled, decimal_of, named}
use Rattle.text_put.proofs.Digits.{length_decimal}
use Rattle.record_lines.specs.Lines.{line_of, passed_line, fault_line, refused_line}

short : (word : List ℕ) (n : ℕ) → length (named word n) ≤ length word + 20
short word n = omega (arith, length-append word (decimal_of n), length_decimal 20 n)

line_short : (number : ℕ) (word : List ℕ) (n : ℕ) → length (line_of number word n) ≤ length word + 41
line_short number word n =
    simp length-append (omega (arith, length_decimal 20 number, length_decimal 20 n))

pub passed_short : (number places : ℕ) → length (passed_line number places) ≤ 128
passed_short number places = omega (arith, line_short number (spelled " passed ") places)

pub refused_short : (number refusal : ℕ) → length (refused_line number refusal) ≤ 128
refused_short number refusal = omega (arith, line_short number (spelled " refused ") refusal)

pub fault_short : (number fault address steps : ℕ) → length (fault_line number fault address steps) ≤ 128
fault_short number fault address steps =
    simp length-append
    (omega (
      arith,
      length_decimal 20 number,
      length_decimal 20 fault,
      length_decimal 20 address,
      length_decimal 20 steps,
    ))
