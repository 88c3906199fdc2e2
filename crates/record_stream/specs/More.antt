-- More input comes to a listing that has taken in what came before.
-- A proof, of the law `more` that the impl in src/ names: what an impl's law names has to lie in specs/.
use Prim.Native.Nat.{ℕ}
use mathlib.Core.List.{List, [], ◌++◌}
use native.Mathlib.Omega.{arith}
use lib.ListN.{length-append}
use Rattle.record_listing.specs.declared.ListingAt.{ListingAt}
use Rattle.record_listing.proofs.Stream.{standing_more}
use Rattle.record_stream.specs.Stream.{Listed}

pub listed_more : (l : ListingAt) (kept input piece text : List ℕ) → Listed l kept input [] text → Listed l kept (input ++ piece) piece text
listed_more l kept input piece text x =
    record {
      standing = standing_more 1 [] input piece text kept l x.standing;
      numbers = omega (arith, x.numbers, length-append input piece);
    }
