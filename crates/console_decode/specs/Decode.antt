-- The numbers that a text of digits holds: "bytes and words in capital hex without separators", sights "one digit a step".
use Rattle.std.specs.Prelude.{ℕ, ◌*◌, List, [], ◌∷◌}
use Rattle.console_phrases.specs.Phrases.{each_of}
use Rattle.text_digits.specs.Digits.{digit_at, hex_byte_at, hex_word_at}

-- the values of 0, 1, .. as a list, n of them
abbrev pub decoded : {X : Type 0} → (ℕ → X) → ℕ → List X
decoded value n = each_of (λ i. value i ∷ []) n

-- bytes of two digits, words of four, sights of one
abbrev pub bytes_in : List ℕ → ℕ → List ℕ
bytes_in text n = decoded (λ i. hex_byte_at text (2 * i)) n

abbrev pub words_in : List ℕ → ℕ → List ℕ
words_in text n = decoded (λ i. hex_word_at text (4 * i)) n

abbrev pub sights_in : List ℕ → ℕ → List ℕ
sights_in text n = decoded (digit_at text) n
