-- 01's printed example, as far as its records: `0A000000 0100 0010 0000 000000000000`, then `04000000 0100 0010 0100`.
use Rattle.std.specs.Prelude.{◌≡◌, refl, [], ◌∷◌, Ok, Err}
use Rattle.record_format.specs.Records.{length_in, kind_in, header_of, cut_of, payload_of}
use Rattle.record_format.specs.declared.Header.TheVariants.{Record}
use Rattle.ground_refusals.specs.declared.Refusal.TheVariants.{CutOrShort, UnknownKind}

pub first_head : header_of (10 ∷ 0 ∷ 0 ∷ 0 ∷ 1 ∷ 0 ∷ []) ≡ Record 10 1
unfolding length_in kind_in
first_head = refl

pub first_payload : payload_of 1 (0 ∷ 16 ∷ 0 ∷ 0 ∷ 0 ∷ 0 ∷ 0 ∷ 0 ∷ 0 ∷ 0 ∷ []) ≡ Ok (record { size = 4096; start = 0 })
first_payload = refl

pub second_head : header_of (4 ∷ 0 ∷ 0 ∷ 0 ∷ 1 ∷ 0 ∷ []) ≡ Record 4 1
unfolding length_in kind_in
second_head = refl

pub second_payload : payload_of 1 (0 ∷ 16 ∷ 1 ∷ 0 ∷ []) ≡ Ok (record { size = 4096; start = 1 })
second_payload = refl

-- 01, "Tried 7, 6": a cut record of an unknown kind is refused 7, a short payload of kind 1 is refused 6
pub cut_unknown : cut_of 2 ≡ UnknownKind
cut_unknown = refl

pub cut_image : cut_of 1 ≡ CutOrShort
cut_image = refl

pub short_unknown : payload_of 0 (0 ∷ 16 ∷ 0 ∷ []) ≡ Err UnknownKind
short_unknown = refl

pub short_image : payload_of 1 (0 ∷ 16 ∷ 0 ∷ []) ≡ Err CutOrShort
short_image = refl
