-- A room is what stands before the first space, or all there is where none stands.
use Rattle.std.proofs.Common.{ℕ, List, ◌≡◌, refl, sym, ap, cond, Bool, true, false, length, take_all, arith}
use borrow.Author.Tests.{eqb-true}
use Rattle.text_parse.specs.Index.{index_of}
use Rattle.text_parse.specs.Parse.{parsed_of}
use Rattle.console_script.specs.declared.Request.{Request}
use Rattle.console_script.specs.declared.Request.TheVariants.{Error}
use Rattle.console_script.specs.Script.{first_word, rest_of, lone, are_bytes, are_sights, up_to, command_request, room_in, run_request, run_in}

one_word : (rest : List ℕ) → lone rest ≡ true → first_word rest ≡ rest
unfolding lone first_word
one_word rest e =
    let whole : index_of 32 rest ≡ length rest = eqb-true (index_of 32 rest) (length rest) e in
    take_all (index_of 32 rest) rest (omega arith)

-- what is asked of all there is, or of the word before what is well made
chosen : (t u : Bool) (a b : Request) → (t ≡ true → a ≡ b) → (t ≡ false → u ≡ true) → cond t a (cond u b Error) ≡ b
chosen true u a b alone before = alone refl
chosen false u a b alone before = rw (before refl) refl

module _ (rest : List ℕ) where
  pub room_is : (code : ℕ) → (lone rest ≡ false → are_bytes (rest_of rest) ≡ true)
      → room_in code rest ≡ command_request code (up_to 65535 (parsed_of (first_word rest)))
  unfolding room_in
  room_is code made =
      chosen (lone rest) (are_bytes (rest_of rest)) (command_request code (up_to 65535 (parsed_of rest)))
      (command_request code (up_to 65535 (parsed_of (first_word rest))))
      (λ e. ap (λ (l : List ℕ). command_request code (up_to 65535 (parsed_of l))) (sym (one_word rest e)))
      made

  pub run_is : (lone rest ≡ false → are_sights (rest_of rest) ≡ true)
      → run_in rest ≡ run_request (up_to 4096 (parsed_of (first_word rest)))
  unfolding run_in
  run_is made =
      chosen (lone rest) (are_sights (rest_of rest)) (run_request (up_to 4096 (parsed_of rest)))
      (run_request (up_to 4096 (parsed_of (first_word rest))))
      (λ e. ap (λ (l : List ℕ). run_request (up_to 4096 (parsed_of l))) (sym (one_word rest e)))
      made
