-- The layout has room for what it holds. Assumes nothing.
use mathlib.Core.Path.{◌≡◌, refl}
use Prim.Native.Nat.{◌*◌, ◌≤◌, ◌<◌}
use native.Mathlib.Omega.{arith}
use Rattle.ground_setup.specs.declared.Size.{Size}
use Rattle.ground_setup.specs.declared.Size.TheVariants.{K4, K8}
use Rattle.ground_setup.proofs.Laws.{sane}
use Rattle.validator_walks.specs.Places.{places_of}
use Rattle.validator_store.specs.Layout.{room_of, twos_of, base_of, cap_of, top_of}

-- 01's for the sizes here
pub room_here : (size : Size) → room_of size ≡ 32768
room_here K4 = refl
room_here K8 = refl

module _ (size : Size) where
  -- a bit for each place before the entries
  pub bits_fit : places_of size ≤ 8 * base_of size
  bits_fit = omega arith

  -- an entry for each two of the places that two ways may lead to, and one more
  pub entries_fit : twos_of size < 2 * cap_of size
  entries_fit = omega arith

  -- all in the room that is lent
  pub top_room : top_of size ≤ room_of size
  top_room = omega (arith, sane size)
