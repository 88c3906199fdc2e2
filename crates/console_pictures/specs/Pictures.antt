-- The lines of drawn items: `point X Y at A`, `vector X Y X Y at A`, both with `off` before `at` where the screen was left; `character X Y code CC basic at A`
-- (or `large`), `cursor X Y code CC basic at A`.
use Rattle.std.specs.Prelude.{ℕ, ◌+◌, ◌*◌, ◌/◌, ◌%◌, min, cond, List, [], ◌++◌, get_or, length, eqb}
use Rattle.text_put.specs.Text.{spelled, named}
use Rattle.console_phrases.specs.Phrases.{paired, byte_named, each_of}

-- ` at A`, which ends the line of each item
abbrev pub at_text : ℕ → List ℕ
at_text a = named (spelled " at ") a ++ spelled "\n"

-- ` off` before it, for a point or vector that "carries 1 in its code field" (02, C-19)
abbrev pub left_text : ℕ → ℕ → List ℕ
left_text code a = cond (eqb code 1) (spelled " off") [] ++ at_text a

abbrev pub point_line : ℕ → ℕ → ℕ → ℕ → List ℕ
point_line x y code a = paired (spelled "point ") x y ++ left_text code a

abbrev pub vector_line : ℕ → ℕ → ℕ → ℕ → ℕ → ℕ → List ℕ
vector_line x₀ y₀ x y code a = paired (spelled "vector ") x₀ y₀ ++ paired (spelled " ") x y ++ left_text code a

-- ` code CC basic`, or `large`: "size (1 basic, 2 large)"
abbrev pub code_text : ℕ → ℕ → List ℕ
code_text code size = byte_named (spelled " code ") (code % 256) ++ cond (eqb size 1) (spelled " basic") (spelled " large")

-- a character's line, or a cursor's
abbrev pub symbol_line : List ℕ → ℕ → ℕ → ℕ → ℕ → ℕ → List ℕ
symbol_line word x y code size a = paired word x y ++ code_text code size ++ at_text a

-- an item by its eight numbers: "kind (1 point, 2 vector, 3 character, 4 cursor), from X, from Y, to X, to Y, code, size, address"
unfoldable pub item_line : ℕ → ℕ → ℕ → ℕ → ℕ → ℕ → ℕ → ℕ → List ℕ
item_line kind x₀ y₀ x y code size a =
    cond (eqb kind 1) (point_line x y code a)
    (cond (eqb kind 2) (vector_line x₀ y₀ x y code a)
    (cond (eqb kind 3) (symbol_line (spelled "character ") x y code size a) (symbol_line (spelled "cursor ") x y code size a)))

-- the item of an index in a list of items, eight numbers each
abbrev pub item_line_at : List ℕ → ℕ → List ℕ
item_line_at list i =
    item_line (get_or list (8 * i) 0) (get_or list (8 * i + 1) 0) (get_or list (8 * i + 2) 0) (get_or list (8 * i + 3) 0)
    (get_or list (8 * i + 4) 0) (get_or list (8 * i + 5) 0) (get_or list (8 * i + 6) 0) (get_or list (8 * i + 7) 0)

-- a line for each of the first items, as many as the list has
abbrev pub items_text : List ℕ → ℕ → List ℕ
items_text list count = each_of (item_line_at list) (min count (length list / 8))
