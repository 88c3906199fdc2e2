-- Where a byte stands in a text.
use Rattle.std.specs.Prelude.{ℕ, zero, suc, Bool, true, false, List, [], ◌∷◌, eqb}

-- one place more, but where the byte is the one that is looked for
unfoldable pub index_after : Bool → ℕ → ℕ
index_after true k = zero
index_after false k = suc k

-- how many bytes stand before the first that is this byte; all of them where none is
unfoldable pub index_of : ℕ → List ℕ → ℕ
index_of byte [] = zero
index_of byte (x ∷ rest) = index_after (eqb x byte) (index_of byte rest)
