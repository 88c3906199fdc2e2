-- Advancing over sights, and then over more.
use Rattle.std.specs.Prelude.{ℕ, ◌+◌, ◌≡◌, true, cond, List, ◌++◌, eqb}
use Rattle.unit_head.specs.Head.{DisplayUnit}
use Rattle.unit_advance.specs.Advance.{AdvanceValues, AdvanceEnd, all_sights, unit_advance}

-- an answer with n steps more
abbrev pub counted_on : ℕ → AdvanceValues → AdvanceValues
counted_on n (AdvanceValues.advanced steps why) = AdvanceValues.advanced (n + steps) why
counted_on n (AdvanceValues.refused k) = AdvanceValues.refused k

-- on over more sights, where those before were used up; else it has ended
abbrev pub then_over : List ℕ → DisplayUnit → AdvanceValues → AdvanceEnd
then_over more u (AdvanceValues.advanced n why) =
    cond (eqb why 0)
    (record { unit = (unit_advance u more).unit; answer = counted_on n (unit_advance u more).answer })
    (record { unit = u; answer = AdvanceValues.advanced n why })
then_over more u (AdvanceValues.refused k) = record { unit = u; answer = AdvanceValues.refused k }

-- advancing over sights and more is advancing over them, and then over the others
abbrev pub AdvanceJoined : Type 0
AdvanceJoined =
    (u : DisplayUnit) (sights more : List ℕ)
    → all_sights (sights ++ more) ≡ true
    → unit_advance u (sights ++ more) ≡ then_over more (unit_advance u sights).unit (unit_advance u sights).answer
