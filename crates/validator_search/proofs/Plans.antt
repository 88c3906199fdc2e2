-- The plan of an image is fit for the search. Assumes nothing.
use mathlib.Core.List.{List}
use Prim.Native.Nat.{ℕ, ◌<◌}
use native.Mathlib.Omega.{arith}
use Rattle.ground_setup.specs.declared.Setup.{Setup}
use Rattle.ground_setup.proofs.Laws.{sane}
use Rattle.validator_walks.specs.Places.{places_of}
use Rattle.validator_walks.proofs.Numbering.{address_lt}
use Rattle.validator_walks.proofs.Unique.{fault_lt}
use Rattle.validator_walks.proofs.Images.{way_lt, two_lt}
use Rattle.validator_store.proofs.Layouts.{bits_fit, entries_fit}
use Rattle.validator_search.specs.Invariant.{plan_of, Fitted}

pub fitted : (image : List ℕ) (su : Setup) (start : ℕ) → start < places_of su.size → Fitted (plan_of image su start)
fitted image su start h = record {
  led_lt = λ p q l. way_lt image su p q;
  two_lt = λ p a b l. two_lt image su p a b;
  number_lt = λ p f h e. let l = fault_lt f in omega arith;
  address_lt = λ p l. omega (arith, address_lt su.size p, sane su.size);
  start_lt = h;
  twos_le = omega arith;
  bits = bits_fit su.size;
  stacks = entries_fit su.size;
  small = omega (arith, sane su.size);
  fits = omega (arith, sane su.size);
}
