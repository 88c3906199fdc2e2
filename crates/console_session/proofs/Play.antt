-- A script line by line: its first line and the lines behind it, and what is printed for a line that comes in parts.
use Prim.Native.Nat.{ℕ, suc, ◌+◌, ◌<◌, min}
use mathlib.Core.Path.{◌≡◌, refl, sym, ap, ◌∙◌}
use mathlib.Core.Bool.{Bool, true, false, cond}
use mathlib.Core.List.{List, [], ◌∷◌, ◌++◌, append-nil}
use native.Mathlib.Omega.{arith}
use native.Mathlib.Decide.{dec_le}
use native.Mathlib.Nat.{add-suc}
use lib.ListN.{length, take, drop, length-append, length-take}
use lib.Seq.{take-nil, drop-nil, take_all, take-take, take_at, drop_at, take-append-le, take-append-add, drop-append-add}
use lib.Dec.{eqb}
use Rattle.text_parse.specs.Index.{index_of, index_after}
use Rattle.text_parse.proofs.Index.{index_behind, index_within, index_kept, none_first}
use Rattle.device_2250.specs.declared.Device.{Device}
use Rattle.console_session.specs.Session.{Said, said_of}
use Rattle.console_session.specs.Play.{first_line, joined, lines_of, answers_of, play_from}
use Rattle.console_session.proofs.Laws.{said_long}

-- a script that is not empty: by its first byte, then by its first line
by_byte : (byte : ℕ) (rest : List ℕ) (t : Bool) (n : ℕ)
    → (0 < length rest → lines_of rest ≡ take n rest ∷ lines_of (drop (suc n) rest))
    → cond t ([] ∷ lines_of rest) (joined byte (lines_of rest))
    ≡ take (index_after t n) (byte ∷ rest) ∷ lines_of (drop (suc (index_after t n)) (byte ∷ rest))
unfolding index_after lines_of
by_byte byte rest true n h = refl
by_byte byte [] false n h =
    ap (λ (l : List ℕ). (byte ∷ l) ∷ []) (sym (take-nil n))
    ∙ ap (λ (l : List ℕ). (byte ∷ take n []) ∷ lines_of l) (sym (drop-nil (suc n)))
by_byte byte (x ∷ xs) false n h = ap (joined byte) (h (omega arith))

pub first_and_rest : (script : List ℕ) → 0 < length script
    → lines_of script ≡ take (index_of 10 script) script ∷ lines_of (drop (suc (index_of 10 script)) script)
unfolding lines_of index_of
first_and_rest [] h = absurd (omega arith)
first_and_rest (byte ∷ rest) h = by_byte byte rest (eqb byte 10) (index_of 10 rest) (first_and_rest rest)

-- an open line, which has no newline yet, goes on to the first newline behind it
module _ (open-line rest : List ℕ) (none : index_of 10 open-line ≡ length open-line) where
  goes_on : 0 < length (open-line ++ rest)
      → lines_of (open-line ++ rest) ≡ (open-line ++ first_line rest) ∷ lines_of (drop (suc (index_of 10 rest)) rest)
  unfolding first_line
  goes_on some =
      let n : ℕ = index_of 10 rest in
      let at : index_of 10 (open-line ++ rest) ≡ length open-line + n = index_behind 10 open-line rest none in
      let line : take (index_of 10 (open-line ++ rest)) (open-line ++ rest) ≡ open-line ++ take n rest =
      ap (λ (k : ℕ). take k (open-line ++ rest)) at ∙ take-append-add open-line rest n in
      let behind : drop (suc (index_of 10 (open-line ++ rest))) (open-line ++ rest) ≡ drop (suc n) rest =
      ap (λ (k : ℕ). drop (suc k) (open-line ++ rest)) at
      ∙ ap (λ (k : ℕ). drop k (open-line ++ rest)) (sym (add-suc (length open-line) n))
      ∙ drop-append-add open-line rest (suc n) in
      first_and_rest (open-line ++ rest) some
      ∙ ap (λ (l : List ℕ). l ∷ lines_of (drop (suc (index_of 10 (open-line ++ rest))) (open-line ++ rest))) line
      ∙ ap (λ (l : List ℕ). (open-line ++ take n rest) ∷ lines_of l) behind

-- of a line longer than 40,000 bytes only that is told: the first 40,001 tell it
pub said_cut : (d : Device) (line cut : List ℕ) → take 40001 line ≡ take 40001 cut → said_of d line ≡ said_of d cut
said_cut d line cut e =
    let same : min 40001 (length line) ≡ min 40001 (length cut) =
    sym (length-take 40001 line) ∙ ap length e ∙ length-take 40001 cut in
    elim (dec_le (length line) 40000) [
      | yes h ↦ ap (said_of d) (sym (take_all 40001 line (omega arith)) ∙ e ∙ take_all 40001 cut (omega arith))
      | no h ↦ sym (said_long d line (omega arith)) ∙ said_long d cut (omega arith)
    ]

-- the line that a piece ends: its answer, and what is printed behind its newline
pub line_ended : (d : Device) (open-line piece rest : List ℕ) → index_of 10 open-line ≡ length open-line
    → index_of 10 piece < length piece
    → play_from d (open-line ++ (take (suc (index_of 10 piece)) piece ++ rest))
    ≡ (said_of d (open-line ++ first_line piece)).text ++ play_from (said_of d (open-line ++ first_line piece)).device rest
unfolding first_line answers_of
line_ended d open-line piece rest none h =
    let n : ℕ = index_of 10 piece in
    let front : List ℕ = take (suc n) piece in
    let size : length front ≡ suc n = length-take (suc n) piece ∙ omega arith in
    let kept : index_of 10 front ≡ n = index_kept 10 (suc n) piece (omega arith) in
    let at : index_of 10 (front ++ rest) ≡ n = index_within 10 front rest (omega arith) ∙ kept in
    let some : 0 < length (open-line ++ (front ++ rest)) =
    omega (arith, length-append open-line (front ++ rest), length-append front rest) in
    let line : first_line (front ++ rest) ≡ take n piece =
    ap (λ (k : ℕ). take k (front ++ rest)) at ∙ take-append-le n front rest (omega arith) ∙ take-take n (suc n) piece (omega arith) in
    let behind : drop (suc (index_of 10 (front ++ rest))) (front ++ rest) ≡ rest =
    ap (λ (k : ℕ). drop (suc k) (front ++ rest)) at ∙ drop_at front rest (suc n) size in
    ap (answers_of d) (goes_on open-line (front ++ rest) none some)
    ∙ ap (λ (l : List ℕ). answers_of d ((open-line ++ l) ∷ lines_of (drop (suc (index_of 10 (front ++ rest))) (front ++ rest)))) line
    ∙ ap (λ (l : List ℕ). answers_of d ((open-line ++ take n piece) ∷ lines_of l)) behind

-- a line that is still open: its first 40,001 bytes tell as much as all of it
pub line_cut : (d : Device) (open-line rest : List ℕ) → index_of 10 open-line ≡ length open-line
    → play_from d (take 40001 open-line ++ rest) ≡ play_from d (open-line ++ rest)
unfolding answers_of
line_cut d open-line rest none =
    let cut : List ℕ = take 40001 open-line in
    let line : List ℕ = open-line ++ first_line rest in
    let behind : List (List ℕ) = lines_of (drop (suc (index_of 10 rest)) rest) in
    elim (dec_le (length open-line) 40001) [
      | yes h ↦ ap (λ (l : List ℕ). play_from d (l ++ rest)) (take_all 40001 open-line h)
      | no h ↦
          let size : length cut ≡ 40001 = length-take 40001 open-line ∙ omega arith in
          let first : take 40001 (cut ++ first_line rest) ≡ take 40001 line =
          take_at cut (first_line rest) 40001 size ∙ sym (take-append-le 40001 open-line (first_line rest) (omega arith)) in
          ap (answers_of d) (goes_on cut rest (none_first 10 40001 open-line none) (omega (arith, length-append cut rest)))
          ∙ ap (λ (s : Said). s.text ++ answers_of s.device behind) (said_cut d (cut ++ first_line rest) line first)
          ∙ ap (answers_of d) (sym (goes_on open-line rest none (omega (arith, length-append open-line rest))))
    ]

-- a last line that wants its newline, and nothing at all
pub line_last : (d : Device) (open-line : List ℕ) → index_of 10 open-line ≡ length open-line → 0 < length open-line
    → play_from d open-line ≡ (said_of d open-line).text
unfolding first_line lines_of answers_of index_of
line_last d open-line none some =
    ap (play_from d) (sym (append-nil open-line))
    ∙ ap (answers_of d) (goes_on open-line [] none (omega (arith, length-append open-line [])))
    ∙ ap (λ (l : List ℕ). (said_of d l).text ++ []) (append-nil open-line)
    ∙ append-nil (said_of d open-line).text

pub no_line : (d : Device) → play_from d [] ≡ []
unfolding lines_of answers_of
no_line d = refl
