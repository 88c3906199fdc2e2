-- Steps over sights a and then over sights c are those over a ++ c; the same of the steps done and of what is drawn. Assumes nothing.
use Prim.Native.Nat.{ℕ, suc, ◌+◌, ◌-◌, ◌≤◌, ◌<◌}
use native.Mathlib.Omega.{arith}
use native.Mathlib.Numerals.{add-one}
use mathlib.Core.Path.{◌≡◌, refl, sym, ap, ◌∙◌}
use mathlib.Core.Bool.{Bool, true, false, cond, false≢true}
use mathlib.Core.List.{List, [], ◌∷◌, ◌++◌, append_assoc, append-nil}
use lib.ListN.{length, take, drop, get_or, length-drop}
use lib.Seq.{take-suc, take-add, drop-cons, length-take-le}
use Rattle.ground_orders.specs.declared.Mode.{Mode}
use Rattle.ground_orders.specs.declared.Mode.TheVariants as mode
use Rattle.ground_look.specs.declared.Look.{Look}
use Rattle.ground_look.specs.declared.Look.TheVariants as look
use Rattle.unit_beam.specs.declared.Beam.{Beam}
use Rattle.unit_pen.specs.Pen.{transfers}
use Rattle.unit_motion.specs.Motion.{two_of, four_of, motion_of}
use Rattle.unit_motion.specs.declared.Motion.TheVariants as motion
use Rattle.unit_items.specs.declared.Item.{Item}
use Rattle.unit_drawing.specs.Drawing.{strokes_of, upto}
use Rattle.unit_drawing.specs.declared.Hit.{Hit}
use Rattle.std.proofs.Common.{None, Option, Some}
use Rattle.unit_cursor.specs.Cursor.{Buffer}
use Rattle.unit_head.specs.declared.State.{State}
use Rattle.unit_step.specs.declared.Stop.{Stop}
use Rattle.unit_step.specs.declared.Stop.TheVariants as stop
use Rattle.unit_step.specs.declared.Stepped.{Stepped}
use Rattle.unit_step.specs.declared.Stepped.TheVariants.{Goes, Stops}
use Rattle.unit_step.specs.Step.{look_at, motion_at, data_to, either_by, step_to, step_over, step_from, items_drawn}
use Rattle.unit_step.specs.Run.{onward, steps_from, steps_at, count_behind, steps_done, beyond, items_run, GoesOver, is_idle, idle_steps}

-- A RUN OVER a ++ c is the run over a, and then over c
module _ (words c : List ℕ) where
  on_by : (a : List ℕ) → ((s : State) → steps_from words (a ++ c) s ≡ onward (steps_from words a s) (λ s'. steps_from words c s')) → (st : Stepped)
      → onward st (λ s'. steps_from words (a ++ c) s') ≡ onward (onward st (λ s'. steps_from words a s')) (λ s'. steps_from words c s')
  on_by a more (Goes s) = more s
  on_by a more (Stops s e) = refl

  pub steps_append : (a : List ℕ) (s : State) → steps_from words (a ++ c) s ≡ onward (steps_from words a s) (λ s'. steps_from words c s')
  unfolding steps_from
  steps_append [] s = refl
  steps_append (g ∷ a) s = on_by a (steps_append a) (step_from words s g)

  count_by : (a : List ℕ)
      → ((s : State) → steps_done words (a ++ c) s ≡ steps_done words a s + beyond 0 (λ s'. steps_done words c s') (steps_from words a s)) → (st : Stepped)
      → count_behind st (λ s'. steps_done words (a ++ c) s')
      ≡ count_behind st (λ s'. steps_done words a s') + beyond 0 (λ s'. steps_done words c s') (onward st (λ s'. steps_from words a s'))
  count_by a more (Goes s) = let m = more s in omega arith
  count_by a more (Stops s e) = omega arith

  pub done_append : (a : List ℕ) (s : State)
      → steps_done words (a ++ c) s ≡ steps_done words a s + beyond 0 (λ s'. steps_done words c s') (steps_from words a s)
  unfolding steps_done steps_from
  done_append [] s = omega arith
  done_append (g ∷ a) s = count_by a (done_append a) (step_from words s g)

-- and so of what it draws
module _ (b : Buffer) (c : List ℕ) where
  items_by : (a : List ℕ)
      → ((s : State) → items_run b (a ++ c) s ≡ items_run b a s ++ beyond [] (λ s'. items_run b c s') (steps_from b.words a s)) → (st : Stepped)
      → beyond [] (λ s'. items_run b (a ++ c) s') st
      ≡ beyond [] (λ s'. items_run b a s') st ++ beyond [] (λ s'. items_run b c s') (onward st (λ s'. steps_from b.words a s'))
  items_by a more (Goes s) = more s
  items_by a more (Stops s e) = refl

  pub items_append : (a : List ℕ) (s : State) → items_run b (a ++ c) s ≡ items_run b a s ++ beyond [] (λ s'. items_run b c s') (steps_from b.words a s)
  unfolding items_run steps_from
  items_append [] s = refl
  items_append (g ∷ a) s =
      let st = step_from b.words s g in
      ap (λ (is : List Item). items_drawn b s g ++ is) (items_by a (items_append a) st)
      ∙ sym (append_assoc (items_drawn b s g) (beyond [] (λ s'. items_run b a s') st) (beyond [] (λ s'. items_run b c s') (onward st (λ s'. steps_from b.words a s'))))

-- steps that all go on are all done
stops_goes : {A : Type 0} {s s' : State} {e : Stop} → Stops s e ≡ Goes s' → A
stops_goes h = let z : ◌≡◌ {A = ℕ} 0 1 = cc in absurd (omega arith)

done_by_lem : (words a : List ℕ) (s' : State) → ((x : State) → steps_from words a x ≡ Goes s' → steps_done words a x ≡ length a) → (st : Stepped)
    → onward st (λ x. steps_from words a x) ≡ Goes s' → count_behind st (λ x. steps_done words a x) ≡ suc (length a)
done_by_lem words a s' more (Goes x) h = ap suc (more x h)
done_by_lem words a s' more (Stops x e) h = stops_goes h

pub all_done : (words a : List ℕ) (s s' : State) → steps_from words a s ≡ Goes s' → steps_done words a s ≡ length a
unfolding steps_from steps_done
all_done words [] s s' h = refl
all_done words (g ∷ a) s s' h = done_by_lem words a s' (λ x k. all_done words a x s' k) (step_from words s g) h

pub done_within : (words a : List ℕ) (s : State) → steps_done words a s ≤ length a
unfolding steps_done
done_within words [] s = omega arith
done_within words (g ∷ a) s = by (done_within words a) (step_from words s g)
  where
    by : ((x : State) → steps_done words a x ≤ length a) → (st : Stepped) → count_behind st (λ x. steps_done words a x) ≤ suc (length a)
    by more (Goes x) = let m = more x in omega arith
    by more (Stops x (stop.Fault f)) = omega arith
    by more (Stops x stop.EndOrder) = omega arith
    by more (Stops x stop.Detect) = omega arith
    by more (Stops x stop.DataCheck) = omega arith

-- a unit that goes on still runs
module _ (s s' : State) where
  either_runs : (target next : ℕ) (t : Bool) → either_by s target next t ≡ Goes s' → s'.running ≡ s.running
  either_runs target next true h = cc
  either_runs target next false h = cc

  data_runs : (b : Beam) (next : ℕ) (h : Option Hit) → data_to s b next h ≡ Goes s' → s'.running ≡ s.running
  data_runs b next None h = cc
  data_runs b next (Some e) h = stops_goes h

  look_runs : (b : Beam) (h : Option Hit) (l : Look) → step_to s b h l ≡ Goes s' → s'.running ≡ s.running
  look_runs b h (look.Fault f) e = stops_goes e
  look_runs b h (look.Check a) e = stops_goes e
  look_runs b h (look.Enter m next) e = cc
  look_runs b h (look.Pass next) e = cc
  look_runs b h (look.Timer next) e = cc
  look_runs b h (look.SetPen p next) e = cc
  look_runs b h (look.End next) e = stops_goes e
  look_runs b h (look.Jump target) e = cc
  look_runs b h (look.Either target next) e = either_runs target next (transfers s.pen) e
  look_runs b h (look.Two x y next) e = data_runs b next h e
  look_runs b h (look.Four x₁ x₂ y₁ y₂ next) e = data_runs b next h e

pub still_runs : (words : List ℕ) (s s' : State) (sight : ℕ) → step_from words s sight ≡ Goes s' → s'.running ≡ s.running
unfolding step_from step_over
still_runs words s s' sight h = look_runs s s' _ _ (look_at words s) h

all_by : (words a : List ℕ) (s s' : State) (g : ℕ) → ((x : State) → steps_from words a x ≡ Goes s' → s'.running ≡ x.running) → (st : Stepped)
    → step_from words s g ≡ st → onward st (λ x. steps_from words a x) ≡ Goes s' → s'.running ≡ s.running
all_by words a s s' g more (Goes x) e h = more x h ∙ still_runs words s x g e
all_by words a s s' g more (Stops x stop) e h = stops_goes h

pub all_run : (words a : List ℕ) (s s' : State) → steps_from words a s ≡ Goes s' → s'.running ≡ s.running
unfolding steps_from
all_run words [] s s' h = cc
all_run words (g ∷ a) s s' h = all_by words a s s' g (λ x k. all_run words a x s' k) (step_from words s g) refl h

-- STEPS THAT GO ON
module _ (words sights : List ℕ) (s : State) where
  -- none
  pub over_none : GoesOver words sights s 0 s
  unfolding steps_from
  over_none = record { within = omega arith; goes = refl }

  module _ (i : ℕ) (x : State) (o : GoesOver words sights s i x) where
    -- some, and then the steps over more sights
    over_part : (c : List ℕ) → steps_from words (take i sights ++ c) s ≡ steps_from words c x
    over_part c = steps_append words c (take i sights) s ∙ ap (λ (st : Stepped). onward st (λ y. steps_from words c y)) o.goes

    done_part : (c : List ℕ) → steps_done words (take i sights ++ c) s ≡ i + steps_done words c x
    done_part c =
        let all = all_done words (take i sights) s x o.goes in
        let long = length-take-le i sights o.within in
        done_append words c (take i sights) s ∙ simp (o.goes, all, long)

    pub items_part : (b : Buffer) → b.words ≡ words → (c : List ℕ) → items_run b (take i sights ++ c) s ≡ items_run b (take i sights) s ++ items_run b c x
    items_part b e c =
        items_append b c (take i sights) s
        ∙ ap (λ (st : Stepped). items_run b (take i sights) s ++ beyond [] (λ y. items_run b c y) st) (ap (λ (w : List ℕ). steps_from w (take i sights) s) e ∙ o.goes)

    -- some, and then k more
    pub over_then : (k : ℕ) (y : State) → GoesOver words (drop i sights) x k y → GoesOver words sights s (i + k) y
    over_then k y p =
        record {
          within = omega (arith, o.within, p.within, length-drop i sights);
          goes = ap (λ (l : List ℕ). steps_from words l s) (take-add i k sights) ∙ over_part (take k (drop i sights)) ∙ p.goes;
        }

    -- the sights behind them
    module _ (h : i < length sights) where
      pub next_sight : drop i sights ≡ get_or sights i 0 ∷ drop (i + 1) sights
      next_sight = rw add-one (drop-cons sights i 0 h)

      -- one more
      pub over_more : (y : State) → step_from words x (get_or sights i 0) ≡ Goes y → GoesOver words sights s (i + 1) y
      unfolding steps_from
      over_more y e =
          record {
            within = omega arith;
            goes =
                ap (λ (l : List ℕ). steps_from words l s) (ap (λ (n : ℕ). take n sights) (add-one i) ∙ take-suc sights i 0 h)
                ∙ over_part (get_or sights i 0 ∷ [])
                ∙ ap (λ (st : Stepped). onward st (λ z. Goes z)) e;
          }

      -- and what it draws
      one_drawn : (b : Buffer) (st : Stepped) → beyond [] (λ z. items_run b [] z) st ≡ []
      unfolding items_run
      one_drawn b (Goes z) = refl
      one_drawn b (Stops z e) = refl

      pub items_more : (b : Buffer) → b.words ≡ words
          → items_run b (take (i + 1) sights) s ≡ items_run b (take i sights) s ++ items_drawn b x (get_or sights i 0)
      unfolding items_run
      items_more b e =
          ap (λ (l : List ℕ). items_run b l s) (ap (λ (n : ℕ). take n sights) (add-one i) ∙ take-suc sights i 0 h)
          ∙ items_part b e (get_or sights i 0 ∷ [])
          ∙ ap (λ (is : List Item). items_run b (take i sights) s ++ is)
          (ap (λ (is : List Item). items_drawn b x (get_or sights i 0) ++ is) (one_drawn b (step_from b.words x (get_or sights i 0))) ∙ append-nil (items_drawn b x (get_or sights i 0)))

      -- one that stops, whichever sights are behind it
      module _ (y : State) (e : Stop) (stops : step_from words x (get_or sights i 0) ≡ Stops y e) (q : ℕ) (k : i < q) where
        front : take q sights ≡ take i sights ++ (get_or sights i 0 ∷ take (q - i - 1) (drop (i + 1) sights))
        front =
            let n : q ≡ i + suc (q - i - 1) = omega arith in
            ap (λ (m : ℕ). take m sights) n ∙ take-add i (suc (q - i - 1)) sights
            ∙ ap (λ (l : List ℕ). take i sights ++ take (suc (q - i - 1)) l) next_sight

        pub over_stops : steps_from words (take q sights) s ≡ Stops y e
        unfolding steps_from
        over_stops =
            ap (λ (l : List ℕ). steps_from words l s) front ∙ over_part (get_or sights i 0 ∷ take (q - i - 1) (drop (i + 1) sights))
            ∙ ap (λ (st : Stepped). onward st (λ z. steps_from words (take (q - i - 1) (drop (i + 1) sights)) z)) stops

        pub over_stopped : steps_done words (take q sights) s ≡ i + steps_at e
        unfolding steps_done
        over_stopped =
            ap (λ (l : List ℕ). steps_done words l s) front ∙ done_part (get_or sights i 0 ∷ take (q - i - 1) (drop (i + 1) sights))
            ∙ ap (λ (st : Stepped). i + count_behind st (λ z. steps_done words (take (q - i - 1) (drop (i + 1) sights)) z)) stops

-- IDLE MODE: how many steps from it there are, one by one
module _ (words sights : List ℕ) (i : ℕ) (s : State) where
  pub idle_none : is_idle s.mode ≡ false → idle_steps words (drop i sights) s ≡ 0
  unfolding idle_steps
  idle_none e = by (drop i sights)
    where
      by : (gs : List ℕ) → idle_steps words gs s ≡ 0
      by [] = refl
      by (g ∷ gs) = simp e

  module _ (h : i < length sights) (e : is_idle s.mode ≡ true) where
    idle_by : (st : Stepped) → step_from words s (get_or sights i 0) ≡ st
        → idle_steps words (drop i sights) s ≡ suc (beyond 0 (λ y. idle_steps words (drop (i + 1) sights) y) st)
    unfolding idle_steps
    idle_by st k = rw (add-one i, drop-cons sights i 0 h) (simp (e, k))

    pub idle_goes : (y : State) → step_from words s (get_or sights i 0) ≡ Goes y → idle_steps words (drop i sights) s ≡ suc (idle_steps words (drop (i + 1) sights) y)
    idle_goes y k = idle_by (Goes y) k

    pub idle_stops : (y : State) (stop : Stop) → step_from words s (get_or sights i 0) ≡ Stops y stop → idle_steps words (drop i sights) s ≡ 1
    idle_stops y stop k = idle_by (Stops y stop) k

-- in idle mode the beam stands still, so that nothing is drawn and no sight falls on anything
idle_still : (m : Mode) (l : Look) (beam : Beam) → is_idle m ≡ true → motion_of l m beam ≡ motion.Still
unfolding motion_of two_of four_of
idle_still mode.Idle (look.Fault f) beam e = refl
idle_still mode.Idle (look.Check a) beam e = refl
idle_still mode.Idle (look.Enter n next) beam e = refl
idle_still mode.Idle (look.Pass next) beam e = refl
idle_still mode.Idle (look.Timer next) beam e = refl
idle_still mode.Idle (look.SetPen p next) beam e = refl
idle_still mode.Idle (look.End next) beam e = refl
idle_still mode.Idle (look.Jump target) beam e = refl
idle_still mode.Idle (look.Either target next) beam e = refl
idle_still mode.Idle (look.Two x y next) beam e = refl
idle_still mode.Idle (look.Four x₁ x₂ y₁ y₂ next) beam e = refl
idle_still mode.Point l beam e = absurd (false≢true e)
idle_still mode.Vector l beam e = absurd (false≢true e)
idle_still mode.IncrementalPoint l beam e = absurd (false≢true e)
idle_still mode.IncrementalVector l beam e = absurd (false≢true e)
idle_still mode.Basic l beam e = absurd (false≢true e)
idle_still mode.Large l beam e = absurd (false≢true e)

pub still_draws : (b : Buffer) (s : State) (sight : ℕ) → motion_at (look_at b.words s) s ≡ motion.Still → items_drawn b s sight ≡ []
unfolding items_drawn strokes_of upto
still_draws b s sight e = rw e refl

pub idle_draws : (b : Buffer) (s : State) (sight : ℕ) → is_idle s.mode ≡ true → items_drawn b s sight ≡ []
idle_draws b s sight e = still_draws b s sight (idle_still s.mode (look_at b.words s) s.beam e)

idle_run_by : (b : Buffer) (gs : List ℕ) (s : State) (g : ℕ)
    → ((x : State) → items_run b (take (idle_steps b.words gs x) gs) x ≡ []) → (t : Bool) → is_idle s.mode ≡ t
    → items_run b (take (cond t (suc (beyond 0 (λ x. idle_steps b.words gs x) (step_from b.words s g))) 0) (g ∷ gs)) s ≡ []
unfolding items_run
idle_run_by b gs s g more true e = rw (idle_draws b s g e) (by (step_from b.words s g))
  where
    by : (st : Stepped) → beyond [] (λ x. items_run b (take (beyond 0 (λ y. idle_steps b.words gs y) st) gs) x) st ≡ []
    by (Goes x) = more x
    by (Stops x e) = refl
idle_run_by b gs s g more false e = refl

pub idle_run : (b : Buffer) (sights : List ℕ) (s : State) → items_run b (take (idle_steps b.words sights s) sights) s ≡ []
unfolding idle_steps items_run
idle_run b [] s = refl
idle_run b (g ∷ gs) s = idle_run_by b gs s g (idle_run b gs) (is_idle s.mode) refl

pub idle_within : (words sights : List ℕ) (s : State) → idle_steps words sights s ≤ length sights
unfolding idle_steps
idle_within words [] s = omega arith
idle_within words (g ∷ gs) s = by (is_idle s.mode) (step_from words s g) (idle_within words gs)
  where
    by : (t : Bool) (st : Stepped) → ((x : State) → idle_steps words gs x ≤ length gs) → cond t (suc (beyond 0 (λ x. idle_steps words gs x) st)) 0 ≤ suc (length gs)
    by true (Goes x) more = let m = more x in omega arith
    by true (Stops x e) more = omega arith
    by false st more = omega arith

pub idle_some : (words sights : List ℕ) (s : State) → 0 < length sights → is_idle s.mode ≡ true → 0 < idle_steps words sights s
unfolding idle_steps
idle_some words [] s h e = absurd (omega arith)
idle_some words (g ∷ gs) s h e = simp e (omega arith)
