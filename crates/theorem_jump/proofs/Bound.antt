-- The bound of jump loses nothing. A search that lands first after m steps has met m states on its way, no two of one number: else it
-- would have landed sooner. There are no more numbers than the bound. Assumes nothing.
use Rattle.std.specs.Prelude.{None, Option, Some}
use Prim.Native.Nat.{ℕ, zero, suc, ◌+◌, ◌-◌, ◌≤◌}
use native.Mathlib.Decide.{le_ind}
use native.Mathlib.Omega.{arith}
use mathlib.Core.Path.{◌≡◌, refl, sym, ap, subst, ◌∙◌}
use mathlib.Core.List.{List}
use Rattle.ground_setup.specs.declared.Size.{Size}
use Rattle.ground_setup.specs.declared.Setup.{Setup}
use Rattle.ground_setup.proofs.Laws.{below}
use Rattle.ground_orders.specs.declared.Mode.{Mode}
use Rattle.validator_walks.specs.Places.{place, Proper}
use Rattle.unit_head.specs.declared.State.{State}
use Rattle.unit_step.specs.Step.{state_at}
use Rattle.typing_signs.specs.Signs.{even_of}
use Rattle.typing_jump.specs.Jump.{hop_of, jump_by, jump_from, steps_in, jump_of}
use Rattle.std.specs.declared.ops.ControlFlow.{ControlFlow}
use Rattle.std.specs.declared.ops.ControlFlow.TheVariants.{Break, Continue}
use Rattle.theorem_jump.specs.Jumps.{Same, state_number, LosesNothing}
use Rattle.theorem_jump.proofs.Different.{Different, at_most}
use Rattle.theorem_jump.proofs.Hops.{Placed, PlacedHop, placed_hop, by_place_and_pen}
use Rattle.theorem_jump.proofs.Numbers.{state_lt, state_alike}

nowhere_at : {A : Type 0} {a : ℕ} → None ≡ Some a → A
nowhere_at e = let z : ◌≡◌ {A = ℕ} 0 1 = cc in absurd (omega arith)

-- one step more finds what was found
more_by : (words : List ℕ) (n to : ℕ) → ((s : State) → jump_from words n s ≡ Some to → jump_from words (suc n) s ≡ Some to) → (h : ControlFlow (Option ℕ) State)
    → jump_by (λ t. jump_from words n t) h ≡ Some to → jump_by (λ t. jump_from words (suc n) t) h ≡ Some to
more_by words n to m (Break p) e = e
more_by words n to m (Continue t) e = m t e

one_more : (words : List ℕ) (n to : ℕ) (s : State) → jump_from words n s ≡ Some to → jump_from words (suc n) s ≡ Some to
unfolding jump_from
one_more words zero to s e = nowhere_at e
one_more words (suc n) to s e = more_by words n to (one_more words n to) (hop_of words s) e

module _ (words : List ℕ) (to : ℕ) where
  -- and so do any number more
  more : (n k : ℕ) → n ≤ k → (s : State) → jump_from words n s ≡ Some to → jump_from words k s ≡ Some to
  more n k h s e = le_ind (λ (m : ℕ). jump_from words m s ≡ Some to) e (λ m l f. one_more words m to s f) k h

  -- a search that lands with its last step, the one after n
  record Lands (n : ℕ) (s : State) : Type 0 where
    late : jump_from words n s ≡ None
    landed : jump_from words (suc n) s ≡ Some to

  -- the state after a step of the search, and after i steps
  abbrev next_by : State → ControlFlow (Option ℕ) State → State
  next_by s (Break p) = s
  next_by s (Continue t) = t

  abbrev next : State → State
  next s = next_by s (hop_of words s)

  along : ℕ → State → State
  along zero s = s
  along (suc i) s = along i (next s)

  -- a step on the way leaves one step fewer to the landing
  next_by_lem : (n : ℕ) (s : State) (h : ControlFlow (Option ℕ) State) → jump_by (λ t. jump_from words n t) h ≡ None → jump_by (λ t. jump_from words (suc n) t) h ≡ Some to
      → Lands n (next_by s h)
  next_by_lem n s (Break p) e f = nowhere_at (sym e ∙ f)
  next_by_lem n s (Continue t) e f = record { late = e; landed = f }

  lands_next : (n : ℕ) (s : State) → Lands (suc n) s → Lands n (next s)
  unfolding jump_from
  lands_next n s l = next_by_lem n s (hop_of words s) l.late l.landed

  lands_along : (i n m : ℕ) → m ≡ i + n → (s : State) → Lands m s → Lands n (along i s)
  unfolding along
  lands_along zero n m e s l = subst (λ (x : ℕ). Lands x s) (omega arith) l
  lands_along (suc i) n m e s l =
      let f : m ≡ suc (i + n) = omega arith in
      lands_along i n (i + n) refl (next s) (lands_next (i + n) s (subst (λ (x : ℕ). Lands x s) f l))

  module _ (su : Setup) where
    -- the search stays at places of the buffer
    placed_by : (s : State) → Placed su s → (h : ControlFlow (Option ℕ) State) → PlacedHop su h → Placed su (next_by s h)
    placed_by s p (Break q) h = p
    placed_by s p (Continue t) h = h

    placed_along : (i : ℕ) (s : State) → Placed su s → Placed su (along i s)
    unfolding along
    placed_along zero s p = p
    placed_along (suc i) s p = placed_along i (next s) (placed_by s p (hop_of words s) (placed_hop words su s p))

    module _ (s : State) (placed : Placed su s) where
      -- no two states before the landing have one number
      all_differ : (m : ℕ) → Lands m s → Different (λ i. state_number (along i s)) (suc m)
      all_differ m l i j h k e =
          let a : Lands (m - i) (along i s) = lands_along i (m - i) m (omega arith) s l in
          let b : Lands (m - j) (along j s) = lands_along j (m - j) m (omega arith) s l in
          let same : Same (along i s) (along j s) = state_alike su (along i s) (along j s) (placed_along i s placed) (placed_along j s placed) e in
          let f : jump_from words (m - i) (along j s) ≡ Some to = more (suc (m - j)) (m - i) (omega arith) (along j s) b.landed in
          nowhere_at (sym a.late ∙ by_place_and_pen words (along i s) (along j s) same (m - i) ∙ f)

      -- so there are no more of them than the bound
      within_steps : (m : ℕ) → Lands m s → suc m ≤ steps_in su.size
      within_steps m l = at_most (steps_in su.size) (suc m) (λ i. state_number (along i s)) (λ i h. state_lt su (along i s) (placed_along i s placed)) (all_differ m l)

      -- what any number of steps finds, the bound finds
      found_by_lem : (k : ℕ) → jump_from words (suc k) s ≡ Some to → (jump_from words k s ≡ Some to → jump_from words (steps_in su.size) s ≡ Some to)
          → (p : Option ℕ) → jump_from words k s ≡ p → jump_from words (steps_in su.size) s ≡ Some to
      found_by_lem k e sooner None f = more (suc k) (steps_in su.size) (within_steps k (record { late = f; landed = e })) s e
      found_by_lem k e sooner (Some b) f =
          let g : jump_from words (suc k) s ≡ Some b = one_more words k b s f in
          let h : b ≡ to = cc in
          sooner (f ∙ ap Some h)

      found : (k : ℕ) → jump_from words k s ≡ Some to → jump_from words (steps_in su.size) s ≡ Some to
      unfolding jump_from
      found zero e = nowhere_at e
      found (suc k) e = found_by_lem k e (found k) (jump_from words k s) refl

-- the cursor's pair is a place of the buffer
pair_proper : (size : Size) (a : ℕ) (m : Mode) → Proper size (place (even_of size a) m)
pair_proper size a m = record { even = omega arith; inside = omega (arith, below size a) }

pub loses_nothing : LosesNothing
unfolding jump_of
loses_nothing words s a m k to e =
    found words to s.setup (state_at s (even_of s.setup.size a) m) (record { same = refl; proper = pair_proper s.setup.size a m }) k e
