-- The working store: a bit for each place, then entries of three bytes. A bit or an entry outside it reads as 0, and none is stored there.
use Rattle.std.specs.Prelude.{cond, List, ◌++◌, ℕ, zero, suc, ◌+◌, ◌*◌, ◌/◌, ◌%◌, ◌^◌, bit_or, min, leb, length, get_or, set, drop, replicate}
use Rattle.std.specs.Int.{bit_at}

-- whether place p is marked, 1 or 0: bit p % 8 of byte p / 8
unfoldable pub bit_of : List ℕ → ℕ → ℕ
bit_of s p = bit_at (get_or s (p / 8) 0) (p % 8)

-- the store with place p marked
unfoldable pub marked : List ℕ → ℕ → List ℕ
marked s p = set s (p / 8) (bit_or (get_or s (p / 8) 0) (2 ^ (p % 8)))

-- how many of the places below n are marked
unfoldable pub tally : List ℕ → ℕ → ℕ
tally s zero = zero
tally s (suc n) = tally s n + bit_of s n

-- the entry at i: the low byte, the high one, the middle one. None lies beside the next of its number, so that no two are read at once:
-- a processor hands on a byte that was just stored, and waits for two that were stored one by one.
unfoldable pub entry_at : List ℕ → ℕ → ℕ
entry_at s i = cond (leb (i + 3) (length s)) (get_or s i 0 + 256 * get_or s (i + 2) 0 + 65536 * get_or s (i + 1) 0) 0

-- the store with v as the entry at i
unfoldable pub saved : List ℕ → ℕ → ℕ → List ℕ
saved s i v = cond (leb (i + 3) (length s)) (set (set (set s i (v % 256)) (i + 1) (v / 65536 % 256)) (i + 2) (v / 256 % 256)) s

-- the store with its first n bytes zero, or all where it has fewer
unfoldable pub cleared : List ℕ → ℕ → List ℕ
cleared s n = replicate (min n (length s)) 0 ++ drop n s
