use Rattle.std.proofs.Common.{ℕ, ◌≡◌, Ok, length, refl, ap, subst, ◌∙◌, arith}
use Rattle.text_output.specs.declared.Output.{Output}
use Rattle.wrap.specs.Wrap.{ReadFor}
use Rattle.wrap.specs.declared.Asked.{Asked}
use Rattle.wrap.proofs.Laws.{image_leaves_room, record_stands}
use Rattle.wrap.proofs.wrap_in.Goals as goal

pub returns-in-Ok : goal.returns-in-Ok
returns-in-Ok c =
    let asked = c.asked_of-asked in
    let wanted : Asked × ℕ = (c.in-Ok.field-0-0, c.in-Ok.count) in
    let wide : length c.args.space.now ≡ 65536 = omega arith in
    let read = subst (λ (room : ℕ). ReadFor asked.result room (Ok wanted)) wide c.in-Ok.ensures in
    let few = image_leaves_room asked.result wanted read in
    let fresh = ap (λ (o : Output). o.written) c.fresh-output.ensures in
    let p = record_stands c.args.out.now c.put_record-end.new.out c.read_asked-input.new.space c.in-Ok.field-0-0 c.in-Ok.count
    c.put_record-end.result (omega arith) few (rw (← c.first.ensures) (c.put_record-end.ensures.value, c.put_record-end.ensures.out_after)) in
    record {
      read = rw (← asked.ensures) read;
      output_made = p.1;
      error_made = refl;
      told = refl;
      handed = λ h. omega (arith, c.write.ensures.count h, fresh, ap length (c.first-in-Ok.ensures ∙ p.0));
    }
