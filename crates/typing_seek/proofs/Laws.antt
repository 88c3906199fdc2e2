-- What the search for the cursor finds: the lowest one.
use Rattle.std.specs.Prelude.{◌⊎◌, None, Option, Some}
use Rattle.std.proofs.Common.{inl, inr}
use Prim.Native.Nat.{ℕ, zero, suc, ◌+◌, ◌<◌, ◌≤◌}
use native.Mathlib.Omega.{arith}
use native.Mathlib.Decide.{ℕ_discrete}
use Rattle.std.proofs.lemmas.Bool.{cases_order}
use Rattle.std.specs.Option.{MatchOption}
use mathlib.Core.Path.{◌≡◌, ◌∙◌, refl, sym}
use mathlib.Core.Bool.{Bool, true, false, cond}
use Rattle.ground_setup.specs.Setup.{size_of}
use Rattle.ground_setup.specs.declared.Size.{Size}
use Rattle.unit_cursor.specs.Cursor.{Buffer, cursor_here}
use Rattle.typing_seek.specs.Seek.{cursor_from, cursor_in}

-- no cursor in a location
abbrev pub Bare : Buffer → ℕ → Type 0
Bare b k = cursor_here b k ≡ false

module _ (b : Buffer) where
  -- the first cursor among the n locations from a on
  abbrev pub Lowest : ℕ → ℕ → Option ℕ → Type 0
  Lowest a n (Some to) = (a ≤ to) × ((to < a + n) × ((cursor_here b to ≡ true) × ((k : ℕ) → a ≤ k → k < to → Bare b k)))
  Lowest a n None = (k : ℕ) → a ≤ k → k < a + n → Bare b k

  -- one bare location more in front
  bare_first : (a n : ℕ) (p : Option ℕ) → Bare b a → Lowest (a + 1) n p → Lowest a (suc n) p
  bare_first a n (Some to) e l = (
    omega (arith, l.0),
    (
      omega (arith, l.1.0),
      (
        l.1.1.0,
        λ k h g.
            elim (ℕ_discrete k a) [
              | yes q ↦ rw q e
              | no m ↦ l.1.1.1 k (omega arith) g
            ],
      ),
    ),
  )
  bare_first a n None e l = λ k h g.
      elim (ℕ_discrete k a) [
        | yes q ↦ rw q e
        | no m ↦ l k (omega arith) (omega arith)
      ]

  by_bit : (n a : ℕ) (t : Bool) → cursor_here b a ≡ t → Lowest (a + 1) n (cursor_from b n (a + 1))
      → Lowest a (suc n) (cond t (Some a) (cursor_from b n (a + 1)))
  by_bit n a true e more = (omega arith, (omega arith, (e, λ k g l. absurd (omega arith))))
  by_bit n a false e more = bare_first a n (cursor_from b n (a + 1)) e more

  lowest : (n a : ℕ) → Lowest a n (cursor_from b n a)
  unfolding cursor_from
  lowest zero a = λ k g l. absurd (omega arith)
  lowest (suc n) a = by_bit n a (cursor_here b a) refl (lowest n (a + 1))

  -- one location is not with and without a cursor
  one_bit : {A : Type 0} (k : ℕ) → cursor_here b k ≡ true → Bare b k → A
  one_bit k set bare =
      let e : true ≡ false = sym set ∙ bare in
      let z : ◌≡◌ {A = ℕ} 0 1 = cc in
      absurd (omega arith)

  -- only one answer is the first cursor
  only : (a n : ℕ) (p q : Option ℕ) → Lowest a n p → Lowest a n q → p ≡ q
  only a n None None l m = refl
  only a n None (Some to) l m = one_bit to m.1.1.0 (l to m.0 m.1.0)
  only a n (Some to) None l m = one_bit to l.1.1.0 (m to l.0 l.1.0)
  only a n (Some to) (Some at) l m = by (cases_order to at)
    where
      by : (to ≡ at) ⊎ ((to < at) ⊎ (at < to)) → Some to ≡ Some at
      by (inl e) = rw e
      by (inr (inl h)) = one_bit to l.1.1.0 (m.1.1.1 to l.0 h)
      by (inr (inr h)) = one_bit at m.1.1.0 (l.1.1.1 at m.0 h)

  -- "where several are set, the lowest address counts (house)"; nowhere means that no cursor bit is set
  pub cursor_lowest : (s : Size) → Lowest 0 (size_of s) (cursor_in b s)
  unfolding cursor_in
  cursor_lowest s = lowest (size_of s) 0

  -- what `find` answers is the lowest cursor
  pub cursor_found : (s : Size) (n : ℕ) (r : Option ℕ) → n ≡ size_of s
      → MatchOption r ((k : ℕ) → 0 ≤ k → k < n → Bare b k) (λ to. (0 ≤ to) × (to < n) × (cursor_here b to ≡ true) × ((k : ℕ) → 0 ≤ k → k < to → Bare b k))
      → r ≡ cursor_in b s
  cursor_found s n None e m = only 0 (size_of s) None (cursor_in b s) (λ k h l. m k h (omega (arith, e))) (cursor_lowest s)
  cursor_found s n (Some to) e m = only 0 (size_of s) (Some to) (cursor_in b s) (m.0, (omega (arith, e, m.1), (m.2, m.3))) (cursor_lowest s)
