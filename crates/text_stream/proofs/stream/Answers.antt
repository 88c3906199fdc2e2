use Rattle.std.proofs.Common.{ℕ, ◌+◌, List, length, refl, sym, ap, subst, ◌∙◌, arith, rules, tests, length-drop}
use Rattle.std.proofs.Math.Seq.{length-take-le}
use Rattle.text_output.specs.declared.Output.{Output}
use Rattle.text_stream.specs.Listen.{AllGiven, GivenSoFar}
use Rattle.text_stream.proofs.Laws.{Between, closed_ends, begins, comes, goes_on, some_used, taken_in, fails, closes}
use Rattle.text_stream.proofs.stream.Goals as goal

pub reads-init : goal.reads-init
reads-init g c = (
  ap (λ (o : Output). o.open) c.fresh-output.ensures,
  begins _ g.L.Listener.Stands c.begin-listener.result c.fresh-output.result (ap (λ (o : Output). o.written) c.fresh-output.ensures) c.begin-listener.ensures,
)

pub returns-in-End : goal.returns-in-End
returns-in-End g c =
    let s = g.L.Listener.Stands in
    closed_ends (AllGiven g.L.Listener.Whole) (GivenSoFar s) _ _ _ c.closed.ensures
    (closes _ s g.L.Listener.Whole c.reads.listener c.reads.output c.reads.count c.close-end.result c.close-end.new.out _ _
    c.close-end.ensures c.first.ensures c.write.ensures refl c.reads.invariant.1)

pub returns-in-Failed : goal.returns-in-Failed
returns-in-Failed g c = fails _ g.L.Listener.Stands c.reads.listener _ c.reads.invariant.0 c.reads.invariant.1

pub feeds-init : goal.feeds-init
feeds-init g c =
    let size = ap (length {A = ℕ}) c.first-rest.ensures ∙ length-take-le c.in-Bytes.n c.read.new.buffer (omega (arith, c.in-Bytes.ensures.1)) in
    comes _ g.L.Listener.Stands g.met.L.Listener.more c.reads.listener _ c.reads.output c.reads.count c.in-Bytes.n size c.reads.invariant.1

pub feeds-smaller : goal.feeds-smaller
feeds-smaller g c =
    let some = some_used _ g.L.Listener.Stands _ _ _ _ _ c.feed-fed.ensures _ _ c.feeds.invariant (omega arith) (search (rules, tests)) in
    omega (arith, some, ap (length {A = ℕ}) c.behind-rest.ensures, length-drop c.feed-fed.result.used c.feeds.rest.now)

pub feeds-preserved : goal.feeds-preserved
feeds-preserved g c =
    let s = g.L.Listener.Stands in
    subst (λ (rest : List ℕ). Between s c.feed-fed.new.self rest c.write-in-feeds.new.self (c.reads.count + c.in-Bytes.n)) (sym c.behind-rest.ensures)
    (goes_on _ s _ _ _ _ _ c.feed-fed.ensures _ _ _ _ c.first-in-feeds.ensures c.write-in-feeds.ensures c.feeds.invariant)

pub reads-preserved : goal.reads-preserved
reads-preserved g c =
    (c.if-not-output.false, taken_in _ g.L.Listener.Stands c.feeds.listener c.feeds.rest.now _ _ (search (rules, tests)) c.feeds.invariant)

-- a buffer of N bytes is no larger than a buffer can be
pub close-end-requires : goal.close-end-requires
close-end-requires g c = omega (arith, g.met.L.Listener.small)

pub feed-fed-requires : goal.feed-fed-requires
feed-fed-requires g c = omega (arith, g.met.L.Listener.small)

pub shared_whole_as_slice-first : goal.shared_whole_as_slice-first
shared_whole_as_slice-first g c = omega (arith, g.met.L.Listener.small)

pub shared_whole_as_slice-first-in-feeds : goal.shared_whole_as_slice-first-in-feeds
shared_whole_as_slice-first-in-feeds g c = omega (arith, g.met.L.Listener.small)
