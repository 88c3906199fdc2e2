-- More of a script comes to a dialogue that has taken in what came before.
-- A proof, of the law `more` that the impl in src/ names: what an impl's law names has to lie in specs/.
use Prim.Native.Nat.{ℕ}
use mathlib.Core.Path.{ap, ◌∙◌}
use mathlib.Core.List.{List, [], ◌++◌, append_assoc}
use Rattle.console_dialogue.specs.Dialogue.{first_dialogue, to_come}
use Rattle.console_dialogue.specs.declared.Dialogue.{Dialogue}
use Rattle.console_stream.specs.Stream.{Played}

pub played_more : (d : Dialogue) (kept script piece text : List ℕ) → Played d kept script [] text → Played d kept (script ++ piece) piece text
played_more d kept script piece text x =
    record {
      start = x.start;
      answers =
          λ more.
          ap (to_come first_dialogue x.start) (append_assoc script piece more) ∙ x.answers (piece ++ more);
    }
