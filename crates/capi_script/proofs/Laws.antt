-- The lines of a script answered from the front, and what is left of it.
use Prim.Native.Nat.{ℕ, suc, ◌+◌, ◌≤◌, ◌<◌, min}
use mathlib.Core.Path.{◌≡◌, sym, ap, subst, ◌∙◌}
use mathlib.Core.List.{List, [], ◌++◌, append_assoc, append-nil}
use native.Mathlib.Omega.{arith}
use native.Mathlib.Decide.{dec_lt}
use lib.ListN.{length, drop, length-drop, drop_of_length-le}
use lib.Seq.{drop-drop}
use Rattle.text_parse.specs.Index.{index_of}
use Rattle.text_put.specs.Text.{end_of}
use Rattle.text_put.proofs.Laws.{Puts, put_no_text, behind}
use Rattle.ground_setup.specs.declared.Size.TheVariants.{K4}
use Rattle.device_2250.specs.Device.{fresh_of}
use Rattle.device_2250.specs.declared.Device.{Device}
use Rattle.console_session.specs.Session.{said_of, Speaks}
use Rattle.console_session.specs.Play.{first_line, lines_of, answers_of, play_of}
use Rattle.console_session.proofs.Play.{first_and_rest}

-- behind the first line and its newline
behind_first : (rest : List ℕ) (used : ℕ) → used ≡ min (index_of 10 rest + 1) (length rest)
    → drop used rest ≡ drop (suc (index_of 10 rest)) rest
behind_first rest used e =
    elim (dec_lt (index_of 10 rest) (length rest)) [
      | yes h ↦
          let one : used ≡ suc (index_of 10 rest) = omega arith in
          ap (λ (n : ℕ). drop n rest) one
      | no h ↦
          drop_of_length-le rest {i = used} (omega arith)
          ∙ sym (drop_of_length-le rest {i = suc (index_of 10 rest)} (omega arith))
    ]

-- the lines before a place are answered: the text so far, and that the lines from there on give the rest of the whole
pub record Playing (out₀ script out : List ℕ) (d : Device) (from end : ℕ) : Type 0 where
  pub text : List ℕ
  pub put : Puts out₀ 0 text end out
  pub rest : text ++ answers_of d (lines_of (drop from script)) ≡ play_of script

pub playing_first : (out script : List ℕ) (d : Device) → d ≡ fresh_of K4 → Playing out script out d 0 0
unfolding play_of end_of
playing_first out script d e =
    record {
      text = [];
      put = (omega arith, sym (put_no_text out 0));
      rest = ap (λ (d : Device). answers_of d (lines_of script)) e;
    }

pub playing_next : (out₀ script out after : List ℕ) (d : Device) (from end used : ℕ) (rest : List ℕ) (left : Device) (ends : ℕ)
    → from < length script
    → rest ≡ drop from script
    → used ≡ min (index_of 10 rest + 1) (length rest)
    → Speaks (said_of d (first_line rest)) out end after left ends
    → Playing out₀ script out d from end
    → Playing out₀ script after left (from + used) ends
unfolding first_line answers_of
playing_next out₀ script out after d from end used rest left ends h e u speaks p =
    let s = said_of d (first_line rest) in
    let some : 0 < length rest = omega (arith, ap (length {A = ℕ}) e, length-drop from script) in
    let there : drop (from + used) script ≡ drop (suc (index_of 10 rest)) rest =
    sym (drop-drop used from script) ∙ ap (drop used) (sym e) ∙ behind_first rest used u in
    let lines : s.text ++ answers_of s.device (lines_of (drop (suc (index_of 10 rest)) rest)) ≡ answers_of d (lines_of rest) =
    ap (answers_of d) (sym (first_and_rest rest some)) in
    record {
      text = p.text ++ s.text;
      put = behind out₀ 0 p.text s.text end ends out after p.put (speaks.end, speaks.lines);
      rest =
          append_assoc p.text s.text (answers_of left (lines_of (drop (from + used) script)))
          ∙ ap (λ (d : Device). p.text ++ (s.text ++ answers_of d (lines_of (drop (from + used) script)))) speaks.device
          ∙ ap (λ (l : List ℕ). p.text ++ (s.text ++ answers_of s.device (lines_of l))) there
          ∙ ap (λ (l : List ℕ). p.text ++ l) lines
          ∙ ap (λ (l : List ℕ). p.text ++ answers_of d (lines_of l)) e
          ∙ p.rest;
    }

pub played : (out₀ script out : List ℕ) (d : Device) (from end : ℕ) → length script ≤ from → Playing out₀ script out d from end
    → Puts out₀ 0 (play_of script) end out
unfolding lines_of answers_of
played out₀ script out d from end h p =
    let none : drop from script ≡ [] = drop_of_length-le script {i = from} h in
    let all : p.text ≡ play_of script =
    sym (append-nil p.text) ∙ ap (λ (l : List ℕ). p.text ++ answers_of d (lines_of l)) (sym none) ∙ p.rest in
    subst (λ (t : List ℕ). Puts out₀ 0 t end out) all p.put
