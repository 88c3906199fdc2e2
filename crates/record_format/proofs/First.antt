-- A record's length and kind are told by its first six bytes.
use Prim.Native.Nat.{ℕ, ◌≤◌, ◌<◌}
use mathlib.Core.Path.{◌≡◌, sym, ap, ◌∙◌}
use mathlib.Core.List.{List, [], ◌∷◌, ◌++◌}
use native.Mathlib.Omega.{arith}
use native.Mathlib.Decide.{dec_lt}
use borrow.Author.Tests.{ne_eqb, lt-ltb, le-ltb}
use lib.ListN.{length, take, drop, length-take, take-append-drop, get_or-append}
use lib.Seq.{take_all}
use Rattle.record_format.specs.Records.{length_in, kind_in, header_of}
use Rattle.record_format.specs.declared.Header.{Header}
use Rattle.record_format.specs.declared.Header.TheVariants.{Record, Cut}

pub length_first : (a r : List ℕ) → 6 ≤ length a → length_in (a ++ r) ≡ length_in a
unfolding length_in
length_first a r h =
    rw (
      get_or-append a r 0 0 (omega arith),
      get_or-append a r 0 1 (omega arith),
      get_or-append a r 0 2 (omega arith),
      get_or-append a r 0 3 (omega arith),
    )

pub kind_first : (a r : List ℕ) → 6 ≤ length a → kind_in (a ++ r) ≡ kind_in a
unfolding kind_in
kind_first a r h = rw (get_or-append a r 0 4 (omega arith), get_or-append a r 0 5 (omega arith))

-- so are those of its first bytes, where there are six
pub length_take_six : (n : ℕ) (s : List ℕ) → 6 ≤ n → 6 ≤ length s → length_in (take n s) ≡ length_in s
length_take_six n s six long =
    sym (length_first (take n s) (drop n s) (omega (arith, length-take n s))) ∙ ap length_in (take-append-drop n s)

pub kind_take_six : (n : ℕ) (s : List ℕ) → 6 ≤ n → 6 ≤ length s → kind_in (take n s) ≡ kind_in s
kind_take_six n s six long =
    sym (kind_first (take n s) (drop n s) (omega (arith, length-take n s))) ∙ ap kind_in (take-append-drop n s)

-- a header of six bytes is a record's, and a record's has six bytes
pub header_whole : (s : List ℕ) → 6 ≤ length s → header_of s ≡ Record (length_in s) (kind_in s)
header_whole s six = simp (ne_eqb (length s) 0 (λ e. omega arith), le-ltb (length s) 6 six)

-- what is no record's header is that of fewer
pub header_short : (h : Header) (s : List ℕ) → ((n kind : ℕ) → h ≡ Record n kind → ⊥) → h ≡ header_of s → length s < 6
header_short h s none e =
    elim (dec_lt (length s) 6) [
      | yes short ↦ short
      | no long ↦ absurd (none (length_in s) (kind_in s) (e ∙ header_whole s (omega arith)))
    ]

short_header : (s : List ℕ) (n kind : ℕ) → length s < 6 → header_of s ≡ Record n kind → ⊥
short_header [] n kind short e = let z : ◌≡◌ {A = ℕ} 0 1 = cc in omega arith
short_header (x ∷ xs) n kind short e =
    let cut : header_of (x ∷ xs) ≡ Cut = simp (ne_eqb (length (x ∷ xs)) 0 (λ z. omega arith), lt-ltb (length (x ∷ xs)) 6 short) in
    let same : Cut ≡ Record n kind = sym cut ∙ e in
    let z : ◌≡◌ {A = ℕ} 0 1 = cc in
    omega arith

pub header_is : (s : List ℕ) (n kind : ℕ) → header_of s ≡ Record n kind → (6 ≤ length s) × (n ≡ length_in s) × (kind ≡ kind_in s)
header_is s n kind e =
    elim (dec_lt (length s) 6) [
      | yes short ↦ absurd (short_header s n kind short e)
      | no long ↦
          let six : 6 ≤ length s = omega arith in
          let same : Record n kind ≡ Record (length_in s) (kind_in s) = sym e ∙ header_whole s six in
          (six, cc, cc)
    ]

-- what stands where a header was due is told by as many bytes, or by all there are
pub header_first : (s : List ℕ) → header_of (take 6 s) ≡ header_of s
header_first s =
    elim (dec_lt (length s) 6) [
      | yes short ↦ ap header_of (take_all 6 s (omega arith))
      | no long ↦
          let six : length (take 6 s) ≡ 6 = length-take 6 s ∙ omega arith in
          simp (
            ne_eqb (length (take 6 s)) 0 (λ e. omega arith),
            le-ltb (length (take 6 s)) 6 (omega arith),
            ne_eqb (length s) 0 (λ e. omega arith),
            le-ltb (length s) 6 (omega arith),
            length_take_six 6 s (omega arith) (omega arith),
            kind_take_six 6 s (omega arith) (omega arith),
          )
    ]
