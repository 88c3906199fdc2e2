-- The four kinds of a step, each by its law. `S` and `room_one` stand in each: lemmas over `Start` made the file longer.
use Rattle.std.proofs.Common.{ℕ, refl, sym, ap, subst, arith}
use Rattle.ground_look.specs.declared.Fault.{Fault}
use Rattle.validator_walks.specs.Steps.{Step, Leads, as_step}
use Rattle.validator_walks.proofs.Numbering.{half_positive}
use Rattle.validator_search.specs.Invariant.{plan_of}
use Rattle.validator_search.proofs.Plans.{fitted}
use Rattle.validator_search.proofs.Growth.{opened_to, opened_either, room_one, room_two}
use Rattle.validator_search.proofs.expand.Goals as goal

pub visit-requires : goal.visit-requires
visit-requires c =
    let a = c.args in
    let S = fitted a.image.now a.setup 0 (omega (arith, half_positive a.setup.size)) in (
      S.led_lt a.p c.in-To.q c.requires.place (subst (λ (x : Step Fault ℕ). Leads x c.in-To.q) (ap as_step c.in-To.ensures) refl),
      (c.requires.long, λ z. omega (arith, room_one (plan_of a.image.now a.setup 0) S a.p a.store.now a.side 0 a.t c.requires)),
    )

pub visit-u-requires : goal.visit-u-requires
visit-u-requires c =
    let a = c.args in
    let S = fitted a.image.now a.setup 0 (omega (arith, half_positive a.setup.size)) in
    let two = S.two_lt a.p _ _ c.requires.place (sym (ap as_step c.in-Either.ensures)) in (
      omega (arith, two.0),
      (c.requires.long, λ z. omega (arith, room_one (plan_of a.image.now a.setup 0) S a.p a.store.now a.side 0 a.t c.requires)),
    )

pub visit-requires-in-Either : goal.visit-requires-in-Either
visit-requires-in-Either c =
    let a = c.args in
    let S = fitted a.image.now a.setup 0 (omega (arith, half_positive a.setup.size)) in
    let e = sym (ap as_step c.in-Either.ensures) in
    let two = S.two_lt a.p _ _ c.requires.place e in
    let V = c.visit-u.ensures a.image.now 0 0 S (λ z. room_one (plan_of a.image.now a.setup 0) S a.p a.store.now a.side 0 a.t c.requires) in (
      omega (arith, two.1),
      (
        omega (arith, c.requires.long, V.grown.long),
        λ z. omega (arith, room_two (plan_of a.image.now a.setup 0) S a.p a.store.now a.side 0 a.t c.requires _ _ _ _ e V z),
      ),
    )

pub returns-in-To : goal.returns-in-To
returns-in-To c = λ start rest h R.
    let a = c.args in
    let S = fitted a.image.now a.setup start h in
    opened_to (plan_of a.image.now a.setup start) a.p a.store.now a.side rest a.t _ _ _ (sym (ap as_step c.in-To.ensures))
    (c.visit.ensures a.image.now start rest S (λ z. room_one (plan_of a.image.now a.setup start) S a.p a.store.now a.side rest a.t R))

pub returns-in-Either : goal.returns-in-Either
returns-in-Either c = λ start rest h R.
    let a = c.args in
    let S = fitted a.image.now a.setup start h in
    let e = sym (ap as_step c.in-Either.ensures) in
    let V = c.visit-u.ensures a.image.now start rest S (λ z. room_one (plan_of a.image.now a.setup start) S a.p a.store.now a.side rest a.t R) in
    opened_either (plan_of a.image.now a.setup start) a.p a.store.now a.side rest a.t S _ _ _ _ _ _ c.requires.place e
    V (c.visit-in-Either.ensures a.image.now start rest S (λ z. room_two (plan_of a.image.now a.setup start) S a.p a.store.now a.side rest a.t R _ _ _ _ e V z))
