-- Each refusal has its own number.
use Prim.Native.Nat.{ℕ, zero, suc}
use mathlib.Core.Path.{◌≡◌, refl, sym, ap, ◌∙◌}
use Rattle.ground_refusals.specs.declared.Refusal.{Refusal}
use Rattle.ground_refusals.specs.declared.Refusal.TheVariants.{WrongSize, TooLong, OddStart, FarStart, ShortStore, CutOrShort, UnknownKind, UnknownSight, UnusedBit, WrongCount, UnknownKey}
use Rattle.ground_refusals.specs.Refusals.{refusal_number}

-- the refusal of a number; a number that is none's gives the nearest
abbrev numbered : ℕ → Refusal
numbered zero = WrongSize
numbered (suc zero) = WrongSize
numbered (suc (suc zero)) = TooLong
numbered (suc (suc (suc zero))) = OddStart
numbered (suc (suc (suc (suc zero)))) = FarStart
numbered (suc (suc (suc (suc (suc zero))))) = ShortStore
numbered (suc (suc (suc (suc (suc (suc zero)))))) = CutOrShort
numbered (suc (suc (suc (suc (suc (suc (suc zero))))))) = UnknownKind
numbered (suc (suc (suc (suc (suc (suc (suc (suc zero)))))))) = UnknownSight
numbered (suc (suc (suc (suc (suc (suc (suc (suc (suc zero))))))))) = UnusedBit
numbered (suc (suc (suc (suc (suc (suc (suc (suc (suc (suc zero)))))))))) = WrongCount
numbered (suc (suc (suc (suc (suc (suc (suc (suc (suc (suc (suc n))))))))))) = UnknownKey

back : (r : Refusal) → numbered (refusal_number r) ≡ r
back WrongSize = refl
back TooLong = refl
back OddStart = refl
back FarStart = refl
back ShortStore = refl
back CutOrShort = refl
back UnknownKind = refl
back UnknownSight = refl
back UnusedBit = refl
back WrongCount = refl
back UnknownKey = refl

pub same_refusal : (r q : Refusal) → refusal_number r ≡ refusal_number q → r ≡ q
same_refusal r q e = sym (back r) ∙ ap numbered e ∙ back q
