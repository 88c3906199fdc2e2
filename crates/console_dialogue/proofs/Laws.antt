-- What is told for a line, for the part of one, and for bytes that follow each other; and the same of the buffer that takes the text.
use Prim.Native.Nat.{ℕ, suc, ◌+◌, ◌-◌, ◌≤◌, ◌<◌}
use mathlib.Core.Path.{◌≡◌, refl, sym, ap, subst, ◌∙◌}
use mathlib.Core.Bool.{Bool, cond}
use mathlib.Core.List.{List, [], ◌++◌, append_assoc, append-nil}
use native.Mathlib.Numerals.{add-one}
use native.Mathlib.Omega.{arith}
use native.Mathlib.Decide.{dec_lt}
use lib.ListN.{length, take, drop, length-append, length-drop}
use lib.Seq.{take-length, take-add}
use Rattle.text_parse.specs.Index.{index_of}
use Rattle.text_parse.proofs.Index.{none_both}
use Rattle.text_put.specs.Text.{end_of}
use Rattle.text_put.proofs.Laws.{Puts, put_no_text, length_put, behind, puts_as}
use Rattle.device_2250.specs.declared.Device.{Device}
use Rattle.console_intake.specs.Intake.{open_line, LineFound}
use Rattle.text_pieces.specs.declared.Found.{Found}
use Rattle.text_pieces.specs.declared.Found.TheVariants.{Whole, Open}
use Rattle.console_intake.proofs.Laws.{open_none, none_is}
use Rattle.console_session.specs.Play.{first_line, play_from}
use Rattle.console_session.specs.Session.{Said, said_of, Speaks}
use Rattle.console_session.proofs.Play.{said_cut, line_ended, line_cut, line_last, no_line}
use Rattle.console_session.proofs.Short.{said_within}
use Rattle.console_dialogue.specs.Dialogue.{to_come, Answers, TakesIn, LeavesOver}
use Rattle.console_dialogue.specs.declared.Dialogue.{Dialogue}
use Rattle.text_pieces.specs.declared.Fed.{Fed}

abbrev pub dialogue : Device → ℕ → Dialogue
dialogue d seen = record { device = d; seen = seen }

abbrev pub fed : ℕ → ℕ → Fed
fed used end = record { used = used; end = end }

-- no line is open
pub open_zero : (kept : List ℕ) → open_line 0 kept ≡ []
unfolding open_line index_of
open_zero kept = refl

-- a line that a piece ends
answers_line : (d : Device) (seen : ℕ) (kept kept' piece given : List ℕ) (used : ℕ) → used ≡ index_of 10 piece + 1
    → used ≤ length piece
    → take 40001 given ≡ take 40001 (open_line seen kept ++ take (index_of 10 piece) piece)
    → Answers (dialogue d seen) kept (take used piece) (said_of d given).text (dialogue (said_of d given).device 0) kept'
unfolding first_line
answers_line d seen kept kept' piece given used e h cut rest =
    let line : List ℕ = open_line seen kept ++ first_line piece in
    let next : used ≡ suc (index_of 10 piece) = e ∙ add-one (index_of 10 piece) in
    ap (λ (n : ℕ). play_from d (open_line seen kept ++ (take n piece ++ rest))) next
    ∙ line_ended d (open_line seen kept) piece rest (open_none seen kept) (omega arith)
    ∙ ap (λ (s : Said). s.text ++ play_from s.device rest) (sym (said_cut d given line cut))
    ∙ ap (λ (l : List ℕ). (said_of d given).text ++ play_from (said_of d given).device (l ++ rest)) (sym (open_zero kept'))

-- a piece that does not end it
answers_open : (d : Device) (seen seen' : ℕ) (kept kept' piece : List ℕ) → index_of 10 piece ≡ length piece
    → open_line seen' kept' ≡ take 40001 (open_line seen kept ++ piece)
    → Answers (dialogue d seen) kept piece [] (dialogue d seen') kept'
answers_open d seen seen' kept kept' piece none cut rest =
    ap (play_from d) (sym (append_assoc (open_line seen kept) piece rest))
    ∙ sym (line_cut d (open_line seen kept ++ piece) rest (none_both 10 (open_line seen kept) piece (open_none seen kept) none))
    ∙ ap (λ (l : List ℕ). play_from d (l ++ rest)) (sym cut)

-- FEEDING a AND THEN b IS FEEDING a ++ b
pub answers_joined : (d e f : Dialogue) (kept kept₁ kept₂ a b s t : List ℕ) → Answers d kept a s e kept₁ → Answers e kept₁ b t f kept₂
    → Answers d kept (a ++ b) (s ++ t) f kept₂
answers_joined d e f kept kept₁ kept₂ a b s t p q rest =
    ap (to_come d kept) (append_assoc a b rest)
    ∙ p (b ++ rest)
    ∙ ap (λ (l : List ℕ). s ++ l) (q rest)
    ∙ sym (append_assoc s t (to_come f kept₂ rest))

-- the same with the buffer: nothing yet, a line, the part of one, and one step more
pub takes_none : (d : Dialogue) (kept piece out : List ℕ) → TakesIn d kept piece out 0 (fed 0 0) d kept out
unfolding end_of
takes_none d kept piece out =
    record {
      text = [];
      answers = λ rest. refl;
      within = omega arith;
      room = omega arith;
      ends = omega arith;
      puts = sym (put_no_text out 0);
    }

pub takes_line : (d : Dialogue) (kept kept' piece out out' : List ℕ) (at : ℕ) (direct : Bool) (count used end : ℕ) (line : Found) (given : List ℕ) (left : Device)
    → line ≡ Whole direct count used
    → LineFound (open_line d.seen kept) piece kept' line
    → at + 487600 ≤ length out
    → given ≡ take count (cond direct piece kept')
    → Speaks (said_of d.device given) out at out' left end
    → TakesIn d kept piece out at (fed used end) (dialogue left 0) kept' out' × (0 < used)
takes_line d kept kept' piece out out' at direct count used end line given left e found room same speaks =
    let said : Said = said_of d.device given in
    let found = subst (LineFound (open_line d.seen kept) piece kept') e found in
    let cut : take 40001 given ≡ take 40001 (open_line d.seen kept ++ take (index_of 10 piece) piece) = ap (take 40001) same ∙ found.2 in (
      record {
        text = said.text;
        answers =
            subst (λ (x : Device). Answers d kept (take used piece) said.text (dialogue x 0) kept') (sym speaks.device)
            (answers_line d.device d.seen kept kept' piece given used found.0 found.1 cut);
        within = found.1;
        room = omega (arith, said_within d.device given);
        ends = speaks.end;
        puts = speaks.lines;
      },
      omega (arith, found.0),
    )

pub takes_open : (d : Dialogue) (kept kept' piece out : List ℕ) (at seen : ℕ) (line : Found) → line ≡ Open seen
    → LineFound (open_line d.seen kept) piece kept' line
    → at + 487600 ≤ length out
    → TakesIn d kept piece out at (fed (length piece) at) (dialogue d.device seen) kept' out
unfolding end_of
takes_open d kept kept' piece out at seen line e found room =
    let found = subst (LineFound (open_line d.seen kept) piece kept') e found in
    record {
      text = [];
      answers =
          subst (λ (l : List ℕ). Answers d kept l [] (dialogue d.device seen) kept') (sym (take-length piece))
          (answers_open d.device d.seen seen kept kept' piece found.0 found.1);
      within = omega arith;
      room = omega arith;
      ends = omega arith;
      puts = sym (put_no_text out at);
    }

pub takes_on : (d e : Dialogue) (kept kept₁ kept₂ piece rest out out₁ out₂ : List ℕ) (used end : ℕ) (next : Fed) (f : Dialogue)
    → TakesIn d kept piece out 0 (fed used end) e kept₁ out₁
    → rest ≡ drop used piece
    → TakesIn e kept₁ rest out₁ end next f kept₂ out₂
    → TakesIn d kept piece out 0 (fed (used + next.used) next.end) f kept₂ out₂
unfolding end_of
takes_on d e kept kept₁ kept₂ piece rest out out₁ out₂ used end next f p is q =
    let size : length out₁ ≡ length out = ap length p.puts ∙ length_put out 0 p.text in
    let left : length rest ≡ length piece - used = ap length is ∙ length-drop used piece in
    let both : take (used + next.used) piece ≡ take used piece ++ take next.used rest =
    take-add used next.used piece ∙ ap (λ (l : List ℕ). take used piece ++ take next.used l) (sym is) in
    let there : end ≡ length p.text = omega (arith, p.ends, p.room) in
    let put =
    behind out 0 p.text q.text end next.end out₁ out₂ (p.ends, p.puts) (q.ends, q.puts) in
    record {
      text = p.text ++ q.text;
      answers =
          subst (λ (l : List ℕ). Answers d kept l (p.text ++ q.text) f kept₂) (sym both)
          (answers_joined d e f kept kept₁ kept₂ (take used piece) (take next.used rest) p.text q.text p.answers q.answers);
      within = omega (arith, p.within, q.within);
      room = omega (arith, length-append p.text q.text, q.room);
      ends = put.0;
      puts = put.1;
    }

-- the end: a line that is open wants its newline, and is answered; or none is
module _ (d : Dialogue) (kept line : List ℕ) (is : line ≡ open_line d.seen kept) where
  last_said : 0 < length line → to_come d kept [] ≡ (said_of d.device line).text
  last_said some =
      ap (play_from d.device) (append-nil (open_line d.seen kept) ∙ sym is)
      ∙ line_last d.device line (rw (← is) at (open_none d.seen kept)) some

  last_none : length line ≡ 0 → to_come d kept [] ≡ []
  last_none none = ap (λ (l : List ℕ). play_from d.device (l ++ [])) (sym is ∙ none_is line none) ∙ no_line d.device

  pub closed_none : (out : List ℕ) → length line ≡ 0 → Puts out 0 (to_come d kept []) 0 out
  unfolding end_of
  closed_none out none = puts_as out 0 [] (to_come d kept []) 0 out (sym (last_none none)) (omega arith, sym (put_no_text out 0))

  pub closed_line : (out out' : List ℕ) (left : Device) (end : ℕ) → (length line ≡ 0 → ⊥) → Speaks (said_of d.device line) out 0 out' left end
      → Puts out 0 (to_come d kept []) end out'
  closed_line out out' left end some speaks =
      puts_as out 0 (said_of d.device line).text (to_come d kept []) end out' (sym (last_said (omega arith)))
      (speaks.end, speaks.lines)

pub closed_short : (d : Dialogue) (kept : List ℕ) → length (to_come d kept []) ≤ 487600
closed_short d kept =
    let line : List ℕ = open_line d.seen kept in
    elim (dec_lt 0 (length line)) [
      | yes h ↦ omega (arith, ap length (last_said d kept line refl h), said_within d.device line)
      | no h ↦ omega (arith, ap length (last_none d kept line refl (omega arith)))
    ]

-- a piece that is fed line by line
pub record Taking (d : Dialogue) (kept piece out : List ℕ) (e : Dialogue) (used end : ℕ) (kept₁ out₁ : List ℕ) : Type 0 where
  pub takes : TakesIn d kept piece out 0 (fed used end) e kept₁ out₁
  pub within : used ≤ length piece
  pub free : end ≤ length out
  pub size : length out₁ ≡ length out
  pub first : used ≡ 0 → end ≡ 0

taking : (d e : Dialogue) (kept kept₁ piece out out₁ : List ℕ) (used end : ℕ) → (used ≡ 0 → end ≡ 0)
    → TakesIn d kept piece out 0 (fed used end) e kept₁ out₁
    → Taking d kept piece out e used end kept₁ out₁
unfolding end_of
taking d e kept kept₁ piece out out₁ used end first p =
    record {
      takes = p;
      within = p.within;
      free = omega (arith, p.ends);
      size = ap length p.puts ∙ length_put out 0 p.text;
      first = first;
    }

pub taking_none : (d : Dialogue) (kept piece out : List ℕ) → Taking d kept piece out d 0 0 kept out
taking_none d kept piece out = taking d d kept kept piece out out 0 0 (λ e. refl) (takes_none d kept piece out)

module _ (d e : Dialogue) (kept kept₁ piece out out₁ : List ℕ) (used end : ℕ) (p : Taking d kept piece out e used end kept₁ out₁) where
  pub taking_next : (kept₂ rest out₂ : List ℕ) (next : Fed) (f : Dialogue) → rest ≡ drop used piece
      → TakesIn e kept₁ rest out₁ end next f kept₂ out₂
      → 0 < next.used
      → Taking d kept piece out f (used + next.used) next.end kept₂ out₂
  taking_next kept₂ rest out₂ next f is q some =
      taking d f kept kept₂ piece out out₂ (used + next.used) next.end (λ e. absurd (omega arith))
      (takes_on d e kept kept₁ kept₂ piece rest out out₁ out₂ used end next f p.takes is q)

  -- at the piece's end, or where an answer might find no room
  pub leaves : (used < length piece → length out₁ - end < 487600) → LeavesOver piece out (fed used end)
  leaves full =
      record {
        all =
            λ room.
            elim (dec_lt used (length piece)) [
              | yes h ↦ absurd (omega (arith, p.size, full h))
              | no h ↦ omega (arith, p.within)
            ];
        some =
            λ room piece.
            elim (dec_lt 0 used) [
              | yes h ↦ h
              | no h ↦ absurd (omega (arith, p.size, p.first (omega arith), full (omega arith)))
            ];
      }
