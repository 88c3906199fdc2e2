-- 01's printed example, made: `0A000000 0100 0010 0000 000000000000`, then `04000000 0100 0010 0100`.
use Rattle.std.specs.Prelude.{◌≡◌, refl, [], ◌∷◌, replicate}
use Rattle.record_make.specs.Making.{record_of}

pub first_record : record_of (replicate 6 0) 4096 0
    ≡ 10 ∷ 0 ∷ 0 ∷ 0 ∷ 1 ∷ 0 ∷ 0 ∷ 16 ∷ 0 ∷ 0 ∷ 0 ∷ 0 ∷ 0 ∷ 0 ∷ 0 ∷ 0 ∷ []
first_record = refl

pub second_record : record_of [] 4096 1 ≡ 4 ∷ 0 ∷ 0 ∷ 0 ∷ 1 ∷ 0 ∷ 0 ∷ 16 ∷ 1 ∷ 0 ∷ []
second_record = refl
