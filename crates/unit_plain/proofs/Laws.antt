-- A step over plain data that nothing is seen of, well before the end of the buffer: it goes on, with the beam where the data leave it, and draws
-- what they draw. Assumes nothing.
use Prim.Native.Nat.{ℕ, ◌+◌, ◌<◌}
use native.Mathlib.Omega.{arith}
use mathlib.Core.Path.{◌≡◌, refl, sym, ap, ◌∙◌}
use mathlib.Core.Bool.{Bool, true, false, not, ◌&&◌, false≢true, and-eq-true_iff}
use mathlib.Core.List.{List}
use lib.Dec.{eqb, ltb}
use lib.ListN.{length, get_or}
use Rattle.ground_location.specs.Location.{data_of, written_of, good_of}
use Rattle.ground_setup.specs.Setup.{size_of, wrap_of, ahead_of}
use Rattle.ground_setup.specs.declared.Size.{Size}
use Rattle.ground_setup.proofs.Laws.{wrap_same, wrap_sum}
use Rattle.ground_groups.specs.declared.Group.TheVariants as group
use Rattle.ground_groups.specs.Groups.{pair_of, words_group}
use Rattle.ground_look.specs.Look.{placing, look_of}
use Rattle.ground_look.specs.declared.Look.{Look}
use Rattle.ground_look.specs.declared.Look.TheVariants as look
use Rattle.unit_beam.specs.declared.Beam.{Beam}
use Rattle.unit_pen.specs.Pen.{seen_of}
use Rattle.unit_motion.specs.Motion.{motion_of, beam_after, data_motion}
use Rattle.unit_motion.specs.declared.Motion.{Motion}
use Rattle.unit_drawing.specs.Drawing.{strokes_of, upto}
use Rattle.unit_drawing.specs.declared.Hit.{Hit}
use Rattle.std.proofs.Common.{None, Some, Option}
use Rattle.std.proofs.lemmas.Bool.{ltb-true}
use Rattle.std.proofs.lemmas.Option.{cond_some}
use Rattle.unit_cursor.specs.Cursor.{Buffer, cursor_here}
use Rattle.unit_head.specs.declared.State.{State}
use Rattle.unit_step.specs.Step.{look_at, beamed, data_to, step_to, hit_by, step_over, step_from, items_drawn}
use Rattle.unit_step.specs.declared.Stepped.TheVariants.{Goes}
use Rattle.unit_plain.specs.Plain.{clear_below, plain_pair, plain_data, span_of, plain_at}

-- what is plain is written, good and no order
record Plainly (w g h e : Bool) : Type 0 where
  written : w ≡ true
  first : g ≡ true
  second : h ≡ true
  order : e ≡ false

plainly : (w g h e : Bool) → (w && (g && h) && not e) ≡ true → Plainly w g h e
plainly true true true false p = record { written = refl; first = refl; second = refl; order = refl }
plainly true true true true p = absurd (false≢true p)
plainly true true false e p = absurd (false≢true p)
plainly true false h e p = absurd (false≢true p)
plainly false g h e p = absurd (false≢true p)

pair_bytes : (w v a b : ℕ) → plain_pair w v ≡ true → pair_of w v a b ≡ group.Bytes (data_of w) (data_of v)
pair_bytes w v a b p =
    let q = plainly (written_of w && written_of v) (good_of w) (good_of v) (eqb (data_of w) 0x2A) p in
    simp (q.written, q.first, q.second)

pair_data : (w v : ℕ) → plain_pair w v ≡ true → eqb (data_of w) 0x2A ≡ false
pair_data w v p = (plainly (written_of w && written_of v) (good_of w) (good_of v) (eqb (data_of w) 0x2A) p).order

-- where the addresses do not go round
module _ (s : Size) (at : ℕ) where
  pub here : at < size_of s → wrap_of s at ≡ at
  here h = wrap_same s at h

  pub ahead_same : (k : ℕ) → at + k < size_of s → ahead_of s at k ≡ at + k
  ahead_same k h = wrap_sum s at k ∙ wrap_same s (at + k) h

module _ (words : List ℕ) (s : State) (h : s.address + 4 < size_of s.setup.size) where
  abbrev word : ℕ → ℕ
  word k = get_or words (s.address + k) 0

  first_group : plain_pair (get_or words s.address 0) (word 1) ≡ true
      → words_group words s.setup s.address ≡ group.Bytes (data_of (get_or words s.address 0)) (data_of (word 1))
  unfolding words_group
  first_group p =
      rw (ahead_same s.setup.size s.address 1 (omega arith), here s.setup.size s.address (omega arith))
      (pair_bytes (get_or words s.address 0) (word 1) s.address (s.address + 1) p)

  second_group : plain_pair (word 2) (word 3) ≡ true
      → words_group words s.setup (ahead_of s.setup.size s.address 2) ≡ group.Bytes (data_of (word 2)) (data_of (word 3))
  unfolding words_group
  second_group p =
      let size = s.setup.size in
      let at : ahead_of size s.address 2 ≡ s.address + 2 = ahead_same size s.address 2 (omega arith) in
      let one : wrap_of size (s.address + 2) ≡ s.address + 2 = here size (s.address + 2) (omega arith) in
      let three : s.address + 2 + 1 ≡ s.address + 3 = omega arith in
      let two : ahead_of size (s.address + 2) 1 ≡ s.address + 3 = ahead_same size (s.address + 2) 1 (omega arith) ∙ three in
      rw at (rw (two, one) (pair_bytes (word 2) (word 3) (s.address + 2) (s.address + 3) p))

  -- the look at them: two words, or four where they are coordinates
  module _ (p : plain_pair (get_or words s.address 0) (word 1) ≡ true) where
    look_two : placing s.mode ≡ false → look_at words s ≡ look.Two (data_of (get_or words s.address 0)) (data_of (word 1)) (s.address + 2)
    unfolding look_of
    look_two e =
        rw (first_group p)
        (simp (pair_data (get_or words s.address 0) (word 1) p, e)
        (ap (look.Two (data_of (get_or words s.address 0)) (data_of (word 1))) (ahead_same s.setup.size s.address 2 (omega arith))))

    look_four : placing s.mode ≡ true → plain_pair (word 2) (word 3) ≡ true
        → look_at words s ≡ look.Four (data_of (get_or words s.address 0)) (data_of (word 1)) (data_of (word 2)) (data_of (word 3)) (s.address + 4)
    unfolding look_of
    look_four e q =
        rw (first_group p, second_group q)
        (simp (pair_data (get_or words s.address 0) (word 1) p, e, pair_data (word 2) (word 3) q)
        (ap (look.Four (data_of (get_or words s.address 0)) (data_of (word 1)) (data_of (word 2)) (data_of (word 3))) (ahead_same s.setup.size s.address 4 (omega arith))))

  -- their motion
  abbrev motion_ahead : Motion
  motion_ahead = data_motion s.mode (data_of (get_or words s.address 0)) (data_of (word 1)) (data_of (word 2)) (data_of (word 3)) s.beam

  abbrev Plain : Type 0
  Plain = plain_data (placing s.mode) (get_or words s.address 0) (word 1) (word 2) (word 3) ≡ true

  -- by whether they are coordinates: the look is over data, with that motion, to the address behind them
  record Looked (l : Look) (t : Bool) : Type 0 where
    motion : motion_of l s.mode s.beam ≡ motion_ahead
    onto : (b : Beam) (h : Option Hit) → step_to s b h l ≡ data_to s b (s.address + span_of t) h

  looked_by : (t : Bool) → placing s.mode ≡ t → plain_data t (get_or words s.address 0) (word 1) (word 2) (word 3) ≡ true → Looked (look_at words s) t
  unfolding motion_of
  looked_by true e p =
      let q = (and-eq-true_iff (plain_pair (get_or words s.address 0) (word 1)) (plain_pair (word 2) (word 3))).0 p in
      rw (look_four q.0 e q.1) (record { motion = simp e; onto = λ b h. refl })
  looked_by false e p =
      let q = (and-eq-true_iff (plain_pair (get_or words s.address 0) (word 1)) true).0 p in
      rw (look_two q.0 e) (record { motion = simp e; onto = λ b h. refl })

  module _ (p : Plain) (sight : ℕ) where
    abbrev looked : Looked (look_at words s) (placing s.mode)
    looked = looked_by (placing s.mode) refl p

    -- A STEP OVER PLAIN DATA goes on, where no sight falls on what they draw
    pub plain_goes : hit_by s motion_ahead (seen_of s.pen sight) ≡ None
        → step_from words s sight ≡ Goes (beamed s (s.address + span_of (placing s.mode)) (beam_after motion_ahead s.beam))
    unfolding step_from step_over
    plain_goes h = rw looked.motion (looked.onto _ _ ∙ rw h)

    -- it draws what their motion draws
    pub plain_draws : (b : Buffer) → b.words ≡ words
        → items_drawn b s sight ≡ upto (seen_of s.pen sight) (strokes_of motion_ahead s.beam (cursor_here b s.address) (cursor_here b (s.address + 1)) s.setup.size s.address)
    unfolding items_drawn
    plain_draws b e =
        rw (ahead_same s.setup.size s.address 1 (omega arith), here s.setup.size s.address (omega arith))
        (ap (λ (m : Motion). upto (seen_of s.pen sight) (strokes_of m s.beam (cursor_here b s.address) (cursor_here b (s.address + 1)) s.setup.size s.address))
        (ap (λ (w : List ℕ). motion_of (look_at w s) s.mode s.beam) e ∙ looked.motion))

-- THE DATA THAT STAND PLAIN at an address are clear of the end and plain, and the bytes of what stands there
pub record PlainHere (words : List ℕ) (size : Size) (at : ℕ) (t : Bool) (a b c d : ℕ) : Type 0 where
  pub near : at < clear_below size (length words)
  pub plain : plain_data t (get_or words at 0) (get_or words (at + 1) 0) (get_or words (at + 2) 0) (get_or words (at + 3) 0) ≡ true
  pub first : a ≡ data_of (get_or words at 0)
  pub second : b ≡ data_of (get_or words (at + 1) 0)
  pub third : c ≡ data_of (get_or words (at + 2) 0)
  pub fourth : d ≡ data_of (get_or words (at + 3) 0)

pub plain_here : (words : List ℕ) (size : Size) (at : ℕ) (t : Bool) (a b c d : ℕ) → plain_at words size at t ≡ Some (a, b, c, d) → PlainHere words size at t a b c d
plain_here words size at t a b c d e =
    let here = cond_some _ _ _ e in
    let both = (and-eq-true_iff (ltb at (clear_below size (length words))) _).0 here.0 in
    let bytes = sym here.1 in
    record {
      near = ltb-true at (clear_below size (length words)) both.0;
      plain = both.1;
      first = ap (λ (q : ℕ × ℕ × ℕ × ℕ). q.0) bytes;
      second = ap (λ (q : ℕ × ℕ × ℕ × ℕ). q.1) bytes;
      third = ap (λ (q : ℕ × ℕ × ℕ × ℕ). q.2) bytes;
      fourth = ap (λ (q : ℕ × ℕ × ℕ × ℕ). q.3) bytes;
    }
