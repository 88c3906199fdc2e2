-- Laws of increments: the beam left the screen exactly where the ten bits are not the exact sum. Assumes nothing.
use Prim.Native.Nat.{ℕ, ◌%◌}
use native.Mathlib.Omega.{arith}
use mathlib.Core.Path.{◌≡◌, refl, sym, ap}
use mathlib.Core.Bool.{Bool, true, false, ◌||◌, false≢true}
use lib.IntN.{ℤ, pos, negsuc}
use borrow.Author.Tests.{ltb-false, le-ltb}
use Rattle.unit_beam.specs.declared.Beam.{Beam}
use Rattle.unit_beam.specs.Beam.{exact_sum, cut_ten, summed, stepped, off_screen, leaves_screen}

-- a number on the screen is its own ten bits, and no other is
cut_exact : (z : ℤ) → off_screen z ≡ false → pos (cut_ten z) ≡ z
cut_exact (pos n) e = ap pos (omega (arith, ltb-false 1023 n e))
cut_exact (negsuc n) e = absurd (false≢true (sym e))

exact_on : (z : ℤ) → pos (cut_ten z) ≡ z → off_screen z ≡ false
exact_on (pos n) e = let same : n % 1024 ≡ n = cc in le-ltb 1023 n (omega arith)
exact_on (negsuc n) e = let no : ◌≡◌ {A = ℕ} 0 1 = cc in absurd (omega arith)

neither : (a b : Bool) → (a || b) ≡ false → (a ≡ false) × (b ≡ false)
neither true b e = absurd (false≢true (sym e))
neither false b e = (refl, e)

-- THE BEAM STAYED ON THE SCREEN EXACTLY WHERE ITS TEN BITS ARE THE EXACT SUMS, in X and in Y
pub record OnExactly (p : Beam) (dx dy : ℕ) : Type 0 where
  pub exact : leaves_screen p dx dy ≡ false → (pos (stepped p dx dy).x ≡ exact_sum p.x dx) × (pos (stepped p dx dy).y ≡ exact_sum p.y dy)
  pub on : pos (stepped p dx dy).x ≡ exact_sum p.x dx → pos (stepped p dx dy).y ≡ exact_sum p.y dy → leaves_screen p dx dy ≡ false

pub on_exactly : (p : Beam) (dx dy : ℕ) → OnExactly p dx dy
unfolding stepped summed leaves_screen
on_exactly p dx dy =
    let x = exact_sum p.x dx in
    let y = exact_sum p.y dy in
    record {
      exact = λ e. let both = neither (off_screen x) (off_screen y) e in (cut_exact x both.0, cut_exact y both.1);
      on = λ e f. simp (exact_on x e) (exact_on y f);
    }
