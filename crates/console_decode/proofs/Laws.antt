-- Numbers read one by one, and that a text has the same where it has ended.
use Prim.Native.Nat.{ℕ, ◌+◌, ◌≤◌, ◌<◌}
use mathlib.Core.Path.{◌≡◌, refl, sym, ◌∙◌}
use mathlib.Core.List.{List, []}
use native.Mathlib.Numerals.{add-one}
use lib.ListN.{length, take, set}
use lib.Seq.{take-suc-set}
use Rattle.console_phrases.specs.Phrases.{each_of}
use Rattle.text_digits.specs.Digits.{hex_byte_at, hex_word_at}
use Rattle.text_digits.proofs.Laws.{no_byte, no_word}
use Rattle.console_decode.specs.Decode.{decoded}

pub none_read : {X : Type 0} (value : ℕ → X) → [] ≡ decoded value 0
unfolding each_of
none_read value = refl

pub one_more_read : {X : Type 0} (value : ℕ → X) (out : List X) (i : ℕ) (n : X) → i < length out → n ≡ value i → take i out ≡ decoded value i
    → take (i + 1) (set out i n) ≡ decoded value (i + 1)
unfolding each_of
one_more_read value out i n h e read = rw (add-one, take-suc-set out i n h, e, read)

-- behind its end a text has the same everywhere
pub bytes_ended : (text : List ℕ) (a b : ℕ) → length text ≤ a → length text ≤ b → hex_byte_at text a ≡ hex_byte_at text b
bytes_ended text a b h k = no_byte text a h ∙ sym (no_byte text b k)

pub words_ended : (text : List ℕ) (a b : ℕ) → length text ≤ a → length text ≤ b → hex_word_at text a ≡ hex_word_at text b
words_ended text a b h k = no_word text a h ∙ sym (no_word text b k)
