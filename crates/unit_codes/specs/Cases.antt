-- What is sent with a command, as one table over the definitions, in a buffer of 4,096 (01: "10, 3, 4 for commands whose code isn't rejected").
use Rattle.std.specs.Prelude.{◌≡◌, refl, List, [], ◌∷◌, map, ℕ, Err, Ok, Result}
use Rattle.ground_refusals.specs.declared.Refusal.{Refusal}
use Rattle.ground_refusals.specs.declared.Refusal.TheVariants.{OddStart, FarStart, WrongCount}
use Rattle.ground_setup.specs.declared.Size.TheVariants.{K4}
use Rattle.unit_codes.specs.Codes.{row_of, sent_by}

-- a code, the bytes sent with it, and whether they fit
pub record SentCase : Type 0 where
  pub code : ℕ
  pub bytes : List ℕ
  pub sent : Result (Unit {0}) Refusal

abbrev sent_case : ℕ → List ℕ → Result (Unit {0}) Refusal → SentCase
sent_case code bytes sent = record { code = code; bytes = bytes; sent = sent }

abbrev pub sent_cases : List SentCase
sent_cases =
    -- 10 is told before 3, and 3 before 4
    sent_case 0x27 (0x10 ∷ 0x01 ∷ 0x00 ∷ []) (Err WrongCount)
    ∷ sent_case 0x27 (0x10 ∷ 0x01 ∷ []) (Err OddStart)
    ∷ sent_case 0x27 (0x10 ∷ 0x00 ∷ []) (Err FarStart)
    ∷ sent_case 0x27 (0x0F ∷ 0xFE ∷ []) (Ok tt)
    -- an odd address is refused to a start alone
    ∷ sent_case 0x07 (0x10 ∷ 0x01 ∷ []) (Err FarStart)
    ∷ sent_case 0x07 (0x0F ∷ 0xFF ∷ []) (Ok tt)
    ∷ sent_case 0x07 (0x0F ∷ []) (Err WrongCount)
    -- no byte is sent with a read, any number with Write Buffer
    ∷ sent_case 0x02 (0x00 ∷ []) (Err WrongCount)
    ∷ sent_case 0x02 [] (Ok tt)
    ∷ sent_case 0x01 [] (Ok tt)
    ∷ sent_case 0x01 (0x00 ∷ 0x01 ∷ 0x02 ∷ []) (Ok tt)
    -- what is sent with a code that is rejected is not looked at
    ∷ sent_case 0x0E (0x00 ∷ []) (Ok tt)
    ∷ []

-- each case of the table holds
pub sent_cases_lem : map (λ (c : SentCase). sent_by K4 (row_of c.code).takes c.bytes) sent_cases ≡ map (λ (c : SentCase). c.sent) sent_cases
unfolding row_of
sent_cases_lem = refl
