-- Answers: of an equal meaning, and of a text that a call has put.
use Rattle.std.specs.Prelude.{Result}
use Prim.Native.Nat.{ℕ, ◌+◌, ◌-◌, ◌≤◌, ◌<◌}
use mathlib.Core.Path.{◌≡◌, refl, sym, ap, subst, ◌∙◌}
use mathlib.Core.List.{List, ◌++◌}
use native.Mathlib.Omega.{arith}
use lib.ListN.{length, take, drop, replicate, length-replicate, length-drop, replicate-append-replicate}
use lib.Seq.{take_at}
use borrow.Author.Tests.{le-leb, lt-leb}
use Rattle.text_put.proofs.Laws.{Puts}
use Rattle.ground_refusals.specs.declared.Refusal.{Refusal}
use Rattle.device_2250.specs.declared.Device.{Device}
use Rattle.console_replies.specs.Replies.{error_line, ran_line}
use Rattle.console_pictures.specs.Pictures.{items_text}
use Rattle.unit_head.specs.Head.{DisplayUnit}
use Rattle.unit_loading.specs.Loading.{unit_load}
use Rattle.unit_commands.specs.Commands.{unit_command}
use Rattle.console_run.specs.Pair.{outcome_number, RunValues, pair_run}
use Rattle.console_run.specs.declared.Outcome.{Outcome}
use Rattle.console_script.specs.Script.{rest_of, request_of}
use Rattle.console_decode.specs.Decode.{bytes_in, sights_in}
use Rattle.console_session.specs.Session.{Said, said, load_said, command_said, run_told, run_said, bytes_sent, dump_sent, sights_sent, said_by, said_of, Speaks, Responds}

pub speaks_as : {s t : Said} {buffer : List ℕ} {at : ℕ} {after : List ℕ} {left : Device} {ends : ℕ} → s ≡ t
    → Speaks s buffer at after left ends
    → Speaks t buffer at after left ends
speaks_as {s} {t} {buffer} {at} {after} {left} {ends} e a = subst (λ (s : Said). Speaks s buffer at after left ends) e a

pub answers_as : {s t : Said} (buffer : List ℕ) (at : ℕ) (after : List ℕ) (left : Device) (r : Result ℕ Refusal) → s ≡ t
    → Responds s buffer at after left r
    → Responds t buffer at after left r
answers_as buffer at after left r e a = subst (λ (s : Said). Responds s buffer at after left r) e a

pub spoken : (d : Device) (text buffer : List ℕ) (at end : ℕ) (after : List ℕ) → Puts buffer at text end after
    → Speaks (said d text) buffer at after d end
spoken d text buffer at end after p = record { device = refl; end = p.0; lines = p.1 }

-- the first n of an array of zeros: n zeros
pub part_zero : (size n : ℕ) → n ≤ size → take (n - 0) (drop 0 (replicate {A = ℕ} size 0)) ≡ replicate n 0
part_zero size n h =
    let all : n - 0 ≡ n = omega arith in
    let whole : size ≡ n + (size - n) = omega arith in
    let split : replicate {A = ℕ} size 0 ≡ replicate n 0 ++ replicate (size - n) 0 =
    ap (λ (k : ℕ). replicate {A = ℕ} k 0) whole ∙ sym (replicate-append-replicate n (size - n) 0) in
    rw (all, split) (take_at (replicate n 0) (replicate (size - n) 0) n (length-replicate n 0))

pub part_length : (size n : ℕ) → n ≤ size → length (take (n - 0) (drop 0 (replicate {A = ℕ} size 0))) ≡ n
part_length size n h = ap length (part_zero size n h) ∙ length-replicate n 0

-- what is said of a run that was done
pub run_end : (d : Device) (list : List ℕ) (steps items why : ℕ) (o : Outcome) → why ≡ outcome_number o
    → said d (ran_line steps why items ++ items_text list items) ≡ run_told d (RunValues.ran steps (outcome_number o) items) list
run_end d list steps items why o h = ap (λ (n : ℕ). said d (ran_line steps n items ++ items_text list items)) h

-- what is said, by equal parts
module _ (u : DisplayUnit) where
  pub command_as : (code : ℕ) (text : List ℕ) {n m : ℕ} {room rest : List ℕ} → n ≡ m → room ≡ rest
      → command_said (unit_command u code (bytes_in text n) room) ≡ command_said (unit_command u code (bytes_in text m) rest)
  command_as code text {n} {m} {room} {rest} e f =
      ap (λ (n : ℕ). command_said (unit_command u code (bytes_in text n) room)) e
      ∙ ap (λ (room : List ℕ). command_said (unit_command u code (bytes_in text m) room)) f

  pub run_as : (text : List ℕ) {n m : ℕ} {list rest : List ℕ} → n ≡ m → list ≡ rest
      → run_said (pair_run u (sights_in text n) list) ≡ run_said (pair_run u (sights_in text m) rest)
  run_as text {n} {m} {list} {rest} e f =
      ap (λ (n : ℕ). run_said (pair_run u (sights_in text n) list)) e ∙ ap (λ (l : List ℕ). run_said (pair_run u (sights_in text m) l)) f

  pub load_of_text : (size : ℕ) {t w : List ℕ} → t ≡ w
      → load_said (unit_load u size (dump_sent t)) ≡ load_said (unit_load u size (dump_sent w))
  load_of_text size e = ap (λ (t : List ℕ). load_said (unit_load u size (dump_sent t))) e

  pub command_of_text : (code : ℕ) (room : List ℕ) {t w : List ℕ} → t ≡ w
      → command_said (unit_command u code (bytes_sent t) room) ≡ command_said (unit_command u code (bytes_sent w) room)
  command_of_text code room e = ap (λ (t : List ℕ). command_said (unit_command u code (bytes_sent t) room)) e

  pub run_of_text : (list : List ℕ) {t w : List ℕ} → t ≡ w
      → run_said (pair_run u (sights_sent t) list) ≡ run_said (pair_run u (sights_sent w) list)
  run_of_text list e = ap (λ (t : List ℕ). run_said (pair_run u (sights_sent t) list)) e

-- what stands behind a space is no longer than the line
pub rest_shorter : (line : List ℕ) → length (rest_of line) ≤ length line
unfolding rest_of
rest_shorter line = simp length-drop (omega arith)

-- a line of up to 40,000 bytes, and a longer one
module _ (d : Device) (line : List ℕ) where
  pub said_short : length line ≤ 40000 → said_by d line (request_of line) ≡ said_of d line
  unfolding said_of
  said_short h = rw (le-leb (length line) 40000 h)

  pub said_long : 40000 < length line → said d error_line ≡ said_of d line
  unfolding said_of
  said_long h = rw (lt-leb (length line) 40000 h)
