-- THE WHOLE of a script, whatever the pieces that it comes in.
use mathlib.Core.Path.{◌≡◌, refl, sym, ap, subst, ◌∙◌}
use mathlib.Core.List.{List, [], ◌++◌, append-nil}
use Prim.Native.Nat.{ℕ}
use lib.ListN.{length, take}
use lib.Seq.{take-length}
use Rattle.ground_setup.specs.declared.Size.TheVariants.{K4}
use Rattle.device_2250.specs.Device.{fresh_of}
use Rattle.text_put.proofs.Laws.{put_whole}
use Rattle.console_session.specs.Play.{play_from, play_of}
use Rattle.console_dialogue.specs.Dialogue.{first_dialogue, to_come, Answers, TakesIn, Feedings, none, more}
use Rattle.console_dialogue.specs.declared.Dialogue.{Dialogue}
use Rattle.text_pieces.specs.declared.Fed.{Fed}
use Rattle.console_dialogue.proofs.Laws.{open_zero, answers_joined}

-- what a call of `feed` puts into the buffer answers the bytes that it used
answers_put : (d d' : Dialogue) (kept kept' piece out out' : List ℕ) (t : Fed) → TakesIn d kept piece out 0 t d' kept' out'
    → Answers d kept (take t.used piece) (take t.end out') d' kept'
answers_put d d' kept kept' piece out out' t p rest =
    p.answers rest
    ∙ ap (λ (l : List ℕ). l ++ to_come d' kept' rest)
    (sym (put_whole out 0 p.text t.end out' p.room (p.ends, p.puts)).2)

-- FEEDING a AND THEN b IS FEEDING a ++ b, where each is taken in whole: what was put and what is to come is the same
pub fed_joined : (d d₁ d₂ d₃ : Dialogue) (kept kept₁ kept₂ kept₃ a b out out₁ out₂ out₃ out₄ out₅ : List ℕ) (s t u : Fed)
    → (TakesIn d kept a out 0 s d₁ kept₁ out₁ × (s.used ≡ length a))
    → (TakesIn d₁ kept₁ b out₂ 0 t d₂ kept₂ out₃ × (t.used ≡ length b))
    → (TakesIn d kept (a ++ b) out₄ 0 u d₃ kept₃ out₅ × (u.used ≡ length (a ++ b)))
    → (rest : List ℕ)
    → take s.end out₁ ++ take t.end out₃ ++ to_come d₂ kept₂ rest
    ≡ take u.end out₅ ++ to_come d₃ kept₃ rest
fed_joined d d₁ d₂ d₃ kept kept₁ kept₂ kept₃ a b out out₁ out₂ out₃ out₄ out₅ s t u first second both rest =
    sym (answers_joined d d₁ d₂ kept kept₁ kept₂ a b (take s.end out₁) (take t.end out₃)
    (all_taken d d₁ kept kept₁ a out out₁ s first)
    (all_taken d₁ d₂ kept₁ kept₂ b out₂ out₃ t second)
    rest)
    ∙ all_taken d d₃ kept kept₃ (a ++ b) out₄ out₅ u both rest
  where
    all_taken : (d d' : Dialogue) (kept kept' piece out out' : List ℕ) (t : Fed)
        → (TakesIn d kept piece out 0 t d' kept' out' × (t.used ≡ length piece))
        → Answers d kept piece (take t.end out') d' kept'
    all_taken d d' kept kept' piece out out' t p =
        subst (λ (l : List ℕ). Answers d kept l (take t.end out') d' kept')
        (ap (λ (n : ℕ). take n piece) p.1 ∙ take-length piece)
        (answers_put d d' kept kept' piece out out' t p.0)

-- calls one behind the other are one
pub feedings_joined : {d d' : Dialogue} {kept kept' bytes text : List ℕ} → Feedings d kept bytes text d' kept'
    → Answers d kept bytes text d' kept'
feedings_joined none rest = refl
feedings_joined (more {d} {d₁} {d'} {kept} {kept₁} {kept'} {bytes} {texts} piece out out₁ t p feedings) rest =
    answers_joined d d₁ d' kept kept₁ kept' (take t.used piece) bytes (take t.end out₁) texts
    (answers_put d d₁ kept kept₁ piece out out₁ t p)
    (λ rest. feedings_joined feedings rest)
    rest

-- FROM THE BEGINNING TO THE END: what was put, and what `close` puts, is what is printed for the script
pub whole : (d : Dialogue) (kept kept' script text : List ℕ) → Answers first_dialogue kept script text d kept'
    → text ++ to_come d kept' [] ≡ play_of script
unfolding play_of
whole d kept kept' script text p =
    sym (p [])
    ∙ ap (λ (l : List ℕ). play_from (fresh_of K4) (l ++ (script ++ []))) (open_zero kept)
    ∙ ap (play_from (fresh_of K4)) (append-nil script)

pub whatever_the_pieces : (d : Dialogue) (kept kept' script text : List ℕ) → Feedings first_dialogue kept script text d kept'
    → text ++ to_come d kept' [] ≡ play_of script
whatever_the_pieces d kept kept' script text feedings = whole d kept kept' script text (feedings_joined feedings)
