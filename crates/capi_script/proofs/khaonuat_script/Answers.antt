use Rattle.std.proofs.Common.{ℕ, length, length-drop, ap, ◌∙◌, arith}
use Rattle.text_put.proofs.Laws.{length_put}
use Rattle.capi_script.proofs.Laws.{playing_next, played}
use Rattle.capi_script.proofs.khaonuat_script.Goals as goal

pub loop-from-preserved : goal.loop-from-preserved
loop-from-preserved c =
    let l = c.loop-from in
    let told = c.answer_first-end in
    let left = ap (length {A = ℕ}) c.behind-rest.ensures ∙ length-drop l.from c.args.script.now in (
      omega (arith, c.with_newline-from.ensures, left, c.loop-from-test.true),
      ap (length {A = ℕ}) told.ensures.lines ∙ length_put _ _ _ ∙ l.invariant.1,
      playing_next c.args.out.now c.args.script.now _ _ _ _ _ _ _ _ _ c.loop-from-test.true c.behind-rest.ensures c.with_newline-from.ensures told.ensures
          l.invariant.2,
    )

pub returns : goal.returns
returns c =
    let p = played c.args.out.now c.args.script.now _ _ c.loop-from.from _ (omega arith) c.loop-from.invariant.2 in
    record { value = p.0; out_after = p.1 }
