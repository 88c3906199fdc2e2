-- A dialogue that listens: before the first piece, behind one, and at the end of the input.
use Prim.Native.Nat.{ℕ}
use mathlib.Core.Path.{◌≡◌, sym, ap, ◌∙◌}
use mathlib.Core.List.{List, [], ◌++◌, append_assoc}
use native.Mathlib.Omega.{arith}
use lib.ListN.{length, take, drop, take-append-drop}
use Rattle.text_put.specs.Text.{end_of}
use Rattle.text_put.proofs.Laws.{Puts, put_whole}
use Rattle.text_stream.specs.Listen.{Takes, Closes}
use Rattle.text_pieces.specs.declared.Fed.{Fed}
use Rattle.console_session.specs.Play.{play_of}
use Rattle.console_dialogue.specs.Dialogue.{first_dialogue, to_come, TakesIn, LeavesOver}
use Rattle.console_dialogue.specs.declared.Dialogue.{Dialogue}
use Rattle.console_dialogue.proofs.Laws.{closed_short}
use Rattle.console_dialogue.proofs.Stream.{whole}
use Rattle.console_stream.specs.Stream.{Played}
use Rattle.console_stream.specs.declared.Holder.{Holder}

abbrev Stands : Holder → List ℕ → List ℕ → List ℕ → Type 0
Stands h = Played h.dialogue h.kept

pub played_first : (d : Dialogue) (kept : List ℕ) → d ≡ first_dialogue → Played d kept [] [] []
played_first d kept e = record { start = kept; answers = λ more. ap (λ (x : Dialogue). to_come x kept more) (sym e) }

played_on : (d d' : Dialogue) (kept kept' piece out out' : List ℕ) (t : Fed) → TakesIn d kept piece out 0 t d' kept' out' → (script text : List ℕ)
    → Played d kept script piece text
    → Played d' kept' script (drop t.used piece) (text ++ take t.end out')
played_on d d' kept kept' piece out out' t takes script text x =
    let given : take t.end out' ≡ takes.text = (put_whole out 0 takes.text t.end out' takes.room (takes.ends, takes.puts)).2 in
    record {
      start = x.start;
      answers =
          λ more.
          let rest : List ℕ = drop t.used piece ++ more in
          let cut : piece ++ more ≡ take t.used piece ++ rest =
          ap (λ (l : List ℕ). l ++ more) (sym (take-append-drop t.used piece)) ∙ append_assoc (take t.used piece) (drop t.used piece) more in
          x.answers more
          ∙ ap (λ (l : List ℕ). text ++ to_come d kept l) cut
          ∙ ap (λ (l : List ℕ). text ++ l) (takes.answers rest)
          ∙ sym (append_assoc text takes.text (to_come d' kept' rest))
          ∙ ap (λ (l : List ℕ). (text ++ l) ++ to_come d' kept' rest) (sym given);
    }

pub holder_takes : (h : Holder) (d' : Dialogue) (kept' piece out out' : List ℕ) (t : Fed) → length out ≡ 524288
    → length out' ≡ 524288
    → TakesIn h.dialogue h.kept piece out 0 t d' kept' out'
    → LeavesOver piece out t
    → Takes Stands h piece t (record { dialogue = d'; kept = kept' }) out'
unfolding end_of
holder_takes h d' kept' piece out out' t room size takes left =
    record {
      within = takes.within;
      ends = omega (arith, takes.ends);
      on = λ script text x. played_on h.dialogue d' h.kept kept' piece out out' t takes script text x;
      some = λ script text x few some. left.some (omega arith) some;
    }

pub holder_closes : (h : Holder) (out out' : List ℕ) (end : ℕ) → length out ≡ 524288 → length out' ≡ 524288 → Puts out 0 (to_come h.dialogue h.kept []) end out'
    → Closes Stands (λ script text. text ≡ play_of script) h end out'
unfolding end_of
holder_closes h out out' end room size puts =
    record {
      ends = omega (arith, puts.0);
      whole =
          λ script text x.
          let put =
          put_whole out 0 (to_come h.dialogue h.kept []) end out' (omega (arith, closed_short h.dialogue h.kept)) puts in
          ap (λ (l : List ℕ). text ++ l) put.2 ∙ whole h.dialogue x.start h.kept script text x.answers;
    }
