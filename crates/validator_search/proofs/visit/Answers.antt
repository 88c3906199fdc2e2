-- A free place is marked and listed; a marked one changes nothing.
use Rattle.std.proofs.Common.{◌≡◌, ℕ, List, ap, ◌∙◌, arith}
use mathlib.Core.Bool.{false≢true}
use Rattle.ground_setup.proofs.Laws.{sane}
use Rattle.validator_store.specs.Layout.{base_of, cap_of}
use Rattle.validator_store.specs.Store.{bit_of, marked, saved}
use Rattle.validator_store.proofs.Bits.{bit_of_lt}
use Rattle.validator_search.specs.Invariant.{slot, plan_of}
use Rattle.validator_search.proofs.Growth.{visited}
use Rattle.validator_search.proofs.visit.Goals as goal
use Rattle.validator_search.proofs.visit.Goals.{Else-seen}

-- a place that is not seen is free
free : (c : Else-seen) → bit_of c.args.store.now c.args.q ≡ 0
free c =
    let unmarked : ¬ (bit_of c.args.store.now c.args.q ≡ 1) = λ e. false≢true (c.if-seen.ensures.1 e) in
    omega (arith, bit_of_lt c.args.store.now c.args.q)

pub slot_at-requires : goal.slot_at-requires
slot_at-requires c = omega (arith, c.requires.1.1 (free (goal.at.slot_at-requires c).Else-seen))

pub overflow_add-result : goal.overflow_add-result
overflow_add-result c = omega (arith, c.requires.1.1 (free (goal.at.overflow_add-result c).Else-seen), sane c.args.setup.size)

pub returns : goal.returns
returns c = λ image start rest S room.
    let a = c.args in
    let unmarked = free (goal.at.returns c).Else-seen in
    let left : c.save.new.store ≡ saved (marked a.store.now a.q) (slot a.side (base_of a.setup.size) (cap_of a.setup.size) a.t) a.q =
    c.save.ensures
    ∙ ap (λ (l : List ℕ). saved l c.slot_at.result a.q) c.mark.ensures
    ∙ ap (λ (x : ℕ). saved (marked a.store.now a.q) x a.q) c.slot_at.ensures in
    rw left (visited (plan_of image a.setup start) S a.q a.store.now a.side rest a.t c.requires.0 unmarked c.requires.1.0 (room unmarked))
