-- Plain data (01, "One step of regeneration"): words of a step that meets no order and no fault.
use Rattle.std.specs.Prelude.{ℕ, ◌+◌, ◌-◌, min, Bool, true, cond, not, ◌&&◌, eqb, ltb, List, length, get_or, Option, None, Some}
use Rattle.ground_setup.specs.Setup.{size_of}
use Rattle.ground_setup.specs.declared.Size.{Size}
use Rattle.ground_location.specs.Location.{data_of, written_of, good_of}

-- the addresses below this have more than four words ahead of them, before the buffer goes round and where there are words
abbrev pub clear_below : Size → ℕ → ℕ
clear_below size words = min (size_of size) words - 4

-- two words: written, of odd parity, and the first no 2A
abbrev pub plain_pair : ℕ → ℕ → Bool
plain_pair w v = (written_of w && written_of v) && (good_of w && good_of v) && not (eqb (data_of w) 0x2A)

-- the data of a step: "idle, incremental and character modes take the word ..  Point and vector read A+2 and A+3 too"
abbrev pub plain_data : Bool → ℕ → ℕ → ℕ → ℕ → Bool
plain_data placing a b c d = plain_pair a b && cond placing (plain_pair c d) true

-- the four bytes at an address, where the data of a step are plain and there are more than four words ahead
abbrev pub plain_at : List ℕ → Size → ℕ → Bool → Option (ℕ × ℕ × ℕ × ℕ)
plain_at words size at placing =
    let a = get_or words at 0 in
    let b = get_or words (at + 1) 0 in
    let c = get_or words (at + 2) 0 in
    let d = get_or words (at + 3) 0 in
    cond (ltb at (clear_below size (length words)) && plain_data placing a b c d) (Some (data_of a, data_of b, data_of c, data_of d)) None

-- how many locations they have
abbrev pub span_of : Bool → ℕ
span_of placing = cond placing 4 2
