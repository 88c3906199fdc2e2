-- Lines that end with a carriage return, which is a byte of its line like any other and which no request has, so that only a line that begins
-- with `#` may have it.
use Rattle.std.specs.Prelude.{ℕ, List, [], ◌∷◌, ◌++◌, map}
use Rattle.text_put.specs.Text.{spelled}

-- lines that end with a carriage return
abbrev pub returned : List (List ℕ)
returned =
    map (λ (line : List ℕ). line ++ (13 ∷ []))
    (spelled "" ∷ spelled "state" ∷ spelled "switch open" ∷ spelled "fresh 4096" ∷ spelled "load 4096 0200" ∷ spelled "command 01 0 2A"
    ∷ spelled "command 0F 0" ∷ spelled "run 16 0" ∷ spelled "words 0 1" ∷ spelled "key C1" ∷ spelled "key advance" ∷ [])
