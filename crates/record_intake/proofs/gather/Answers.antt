use Rattle.std.proofs.Common.{ℕ, ◌+◌, ◌<◌, ◌++◌, length, refl, sym, ap, ◌∙◌, arith}
use Rattle.record_format.specs.Records.{header_of}
use Rattle.record_format.proofs.First.{header_first, header_short}
use Rattle.record_intake.proofs.Laws.{Headed, header_kept, still_headless, still_open, open_again, less, is_whole, whole_head, some_record}
use Rattle.record_intake.proofs.gather.Goals as goal
use Rattle.record_intake.proofs.gather.Goals.{After-keep}

-- no header is there
pub returns-in_default : goal.returns-in_default
returns-in_default c =
    let a = c.args in
    let some : ℕ = a.had + length a.piece.now in
    let put = c.head.ensures.kept_after in
    record {
      by_index = λ s o.
          let first = header_kept a.had some a.kept.now c.head.new.kept s a.piece.now (omega arith) refl put o in
          let short = header_short c.head.result (s ++ a.piece.now) c.in_default.not-Record
          (c.head.ensures.value.0 ∙ ap header_of first ∙ header_first (s ++ a.piece.now)) in
          open_again some c.head.new.kept (s ++ a.piece.now) (omega arith)
          (still_headless a.had some a.kept.now c.head.new.kept s a.piece.now refl first short o);
      used_in = tt;
    }

-- the header is there, and what can be needed is kept
headed : (c : After-keep)
    → Headed c.args.had (c.args.had + length c.args.piece.now) c.in-Record.length c.in-Record.kind c.needed-count.result
    c.args.kept.now c.head.new.kept c.keep.new.kept c.args.piece.now
headed c =
    record {
      room = omega arith;
      sum = refl;
      put = c.head.ensures.kept_after;
      head = sym c.in-Record.is ∙ c.head.ensures.value.0;
      need = c.needed-count.ensures.0;
      size = omega arith;
      again = c.keep.ensures;
    }

pub returns-then-some-length-clause-by_index : goal.returns-then-some-length-clause-by_index
returns-then-some-length-clause-by_index c = λ s o.
    open_again _ _ (s ++ c.args.piece.now) (omega arith)
    (still_open _ _ _ _ _ _ _ _ _ (headed (goal.at.returns-then-some-length-clause-by_index c).After-keep) s o c.if-some-length.true)

-- a record that is open has more to come
more_to_come : (c : After-keep) → c.args.had < 6 + c.in-Record.length
more_to_come c =
    let s = some_record c.args.had c.args.kept.now (omega arith) c.requires.0 in
    less _ _ _ _ _ _ _ _ _ (headed c) s.0 s.1

pub overflow_sub-result : goal.overflow_sub-result
overflow_sub-result c = omega (arith, more_to_come (goal.at.overflow_sub-result c).After-keep)

pub returns-clause-by_index : goal.returns-clause-by_index
returns-clause-by_index c = λ s o. is_whole _ _ _ _ _ _ _ _ _ (headed (goal.at.returns-clause-by_index c).After-keep) s o c.if-some-length.false

pub returns-clause-used_in : goal.returns-clause-used_in
returns-clause-used_in c =
    let at = (goal.at.returns-clause-used_in c).After-keep in
    let s = some_record c.args.had c.args.kept.now (omega arith) c.requires.0 in (
      omega (arith, more_to_come at),
      omega (arith, more_to_come at),
      whole_head s.0 c.args.piece.now _ _ (is_whole _ _ _ _ _ _ _ _ _ (headed at) s.0 s.1 c.if-some-length.false),
    )
