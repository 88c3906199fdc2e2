use Rattle.std.proofs.Common.{◌≡◌, ◌∙◌, ◌<◌, true, length, get_or, sym, arith}
use Rattle.std.proofs.Math.ListN.{length-set}
use Rattle.unit_cursor.specs.Cursor.{buffer}
use Rattle.unit_buffer.specs.Buffer.{found_at, reads_on}
use Rattle.unit_buffer.proofs.Reading.{given_on, read_on}
use Rattle.unit_buffer.proofs.read_out.Goals as goal
use Rattle.unit_buffer.proofs.read_out.Goals.{then-seek, else-seek}

pub loop-i-preserved : goal.loop-i-preserved
loop-i-preserved c =
    let h : c.loop-i.i < length c.loop-i.room = omega arith in
    let b = buffer c.args.words.now c.args.cursor in
    let word = c.word_at-word.ensures in
    let here : found_at b c.args.seek c.loop-i.a ≡ c.if-seek.here =
    elim c.if-seek.branch [ then-seek w ↦ grind arith | else-seek w ↦ grind arith ]
    in
    let given = simp (word, sym here) at c.given.ensures in
    let yes : reads_on (found_at b c.args.seek c.loop-i.a) (get_or c.args.words.now c.loop-i.a 0) ≡ true = grind arith in
    record {
      within = simp length-set (omega arith);
      long = simp length-set c.loop-i.invariant.long;
      given_left = rw (c.ahead-a.ensures.0, given) (c.loop-i.invariant.given_left ∙ given_on _ _ _ _ _ _ h yes);
      read_left = rw (c.ahead-a.ensures.0, given) (c.loop-i.invariant.read_left ∙ read_on _ _ _ _ _ _ h yes);
    }
