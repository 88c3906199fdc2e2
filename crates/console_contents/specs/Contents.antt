-- The lines of bytes that a command gave, and of words of the buffer.
use Rattle.std.specs.Prelude.{ℕ, ◌+◌, cond, List, ◌++◌, get_or, eqb, leb}
use Rattle.text_put.specs.Text.{spelled, hex_byte, hex_word}
use Rattle.console_phrases.specs.Phrases.{byte_named, each_of}
use Rattle.console_replies.specs.Replies.{error_line}

-- the first bytes of a room, two digits each
abbrev pub bytes_text : List ℕ → ℕ → List ℕ
bytes_text room count = each_of (λ i. hex_byte (get_or room i 0)) count

-- "and, if bytes were given, a space and the bytes"
abbrev pub given_text : List ℕ → ℕ → List ℕ
given_text room count = cond (eqb count 0) (spelled "\n") (spelled " " ++ bytes_text room count ++ spelled "\n")

-- `status SS`, with the bytes that were given
abbrev pub status_line : ℕ → List ℕ → ℕ → List ℕ
status_line status room count = byte_named (spelled "status ") status ++ given_text room count

-- the words from an address on, four digits each
abbrev pub words_text : List ℕ → ℕ → ℕ → List ℕ
words_text words from count = each_of (λ i. hex_word (get_or words (from + i) 0)) count

-- `words FROM COUNT`: "COUNT from 1, not past the size"
abbrev pub words_line : List ℕ → ℕ → ℕ → ℕ → List ℕ
words_line words size from count =
    cond (eqb count 0) error_line (cond (leb (from + count) size) (words_text words from count ++ spelled "\n") error_line)
