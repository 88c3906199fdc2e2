-- The pair shown to be the run, and where it ends with 9. Assumes nothing.
use Rattle.std.specs.Prelude.{None, Option, Some}
use Prim.Native.Nat.{ℕ, suc, ◌+◌}
use native.Mathlib.Omega.{arith}
use mathlib.Core.Path.{◌≡◌, refl, sym, ap, subst, ◌∙◌}
use mathlib.Core.Bool.{Bool, true, false, cond, and-eq-true_iff}
use mathlib.Core.List.{List, [], ◌∷◌, append-nil}
use lib.Dec.{leb}
use lib.ListN.{length, take, drop, get_or, take-append-drop}
use lib.Seq.{length-take-le}
use Rattle.ground_look.specs.declared.Fault.TheVariants as fault
use Rattle.ground_look.specs.declared.Look.{Look}
use Rattle.ground_look.specs.declared.Look.TheVariants as look
use Rattle.unit_beam.specs.declared.Beam.{Beam}
use Rattle.unit_pen.specs.Pen.{transfers}
use Rattle.unit_motion.specs.Motion.{motion_of}
use Rattle.unit_motion.specs.declared.Motion.TheVariants.{Still}
use Rattle.unit_drawing.specs.declared.Hit.{Hit}
use Rattle.unit_items.specs.Items.{listing, listed}
use Rattle.unit_items.specs.declared.Item.{Item}
use Rattle.unit_items.proofs.Laws.{none_listing, none_listed, listing_append, length_listed}
use Rattle.unit_cursor.specs.Cursor.{buffer}
use Rattle.unit_head.specs.Head.{DisplayUnit, unit, with_state, buffer_of}
use Rattle.unit_head.specs.declared.State.{State}
use Rattle.unit_head.specs.declared.Head.{Head}
use Rattle.unit_step.specs.Step.{look_at, motion_at, data_to, either_by, step_to, step_over, step_from, items_drawn}
use Rattle.unit_step.specs.Run.{steps_from, steps_at, steps_done, items_run}
use Rattle.unit_step.specs.declared.Stop.{Stop}
use Rattle.unit_step.specs.declared.Stop.TheVariants as stop
use Rattle.unit_step.specs.declared.Stepped.{Stepped}
use Rattle.unit_step.specs.declared.Stepped.TheVariants.{Goes, Stops}
use Rattle.unit_step.proofs.Laws.{still_draws, still_runs, all_done, all_run, next_sight}
use Rattle.unit_step.proofs.Laws as steps
use Rattle.unit_advance.specs.Advance.{stop_number, progress, progress_by, progress_over, head_after, all_sights, advanced_by, gone_over}
use Rattle.unit_advance.specs.declared.End.TheVariants.{Stopped, NotRunning}
use Rattle.console_run.specs.Pair.{RunValues, RunEnd, run_end, advances_by, pair_from, pair_run}
use Rattle.console_run.specs.declared.Outcome.TheVariants.{Ended}
use Rattle.console_run.proofs.Laws.{stop_number_lem, over_none, over_goes, over_stops, one_listed, one_full, pair_none, pair_over}
use Rattle.console_run.proofs.Turning.{all_take, all_drop, advance_all, pair_still}
use Rattle.theorem_run.specs.Run.{course, ended_with, not_done, course_by, run_from, ran_by, unit_run}
use Rattle.theorem_run.specs.Together.{GivesTheRun, NotDoneBare, NextTooMuch, Nine, with_items, AllFits}

-- A STEP THAT IS NOT DONE moves nothing, and so draws nothing
goes_stops : {A : Type 0} {s s' : State} {e : Stop} → Goes s ≡ Stops s' e → A
goes_stops h = let z : ◌≡◌ {A = ℕ} 0 1 = cc in absurd (omega arith)

module _ (s s' : State) (e : Stop) (none : steps_at e ≡ 0) where
  counts : {A : Type 0} {x : State} (f : Stop) → steps_at f ≡ 1 → Stops x f ≡ Stops s' e → A
  counts f one h = let same : f ≡ e = cc in absurd (omega (arith, none, one, ap steps_at same))

  bare_data : {A : Type 0} (b : Beam) (next : ℕ) (h : Option Hit) → data_to s b next h ≡ Stops s' e → A
  bare_data b next None k = goes_stops k
  bare_data b next (Some h) k = counts stop.Detect refl k

  bare_either : {A : Type 0} (target next : ℕ) (t : Bool) → either_by s target next t ≡ Stops s' e → A
  bare_either target next true k = goes_stops k
  bare_either target next false k = goes_stops k

  bare_by : (b : Beam) (h : Option Hit) (l : Look) → step_to s b h l ≡ Stops s' e → motion_at l s ≡ Still
  unfolding motion_of
  bare_by b h (look.Fault f) k = refl
  bare_by b h (look.Check a) k = refl
  bare_by b h (look.Enter m next) k = goes_stops k
  bare_by b h (look.Pass next) k = goes_stops k
  bare_by b h (look.Timer next) k = goes_stops k
  bare_by b h (look.SetPen p next) k = goes_stops k
  bare_by b h (look.End next) k = counts stop.EndOrder refl k
  bare_by b h (look.Jump target) k = goes_stops k
  bare_by b h (look.Either target next) k = bare_either target next (transfers s.pen) k
  bare_by b h (look.Two x y next) k = bare_data b next h k
  bare_by b h (look.Four x₁ x₂ y₁ y₂ next) k = bare_data b next h k

pub not_done_bare : NotDoneBare
unfolding step_from step_over
not_done_bare b s s' sight e k none = still_draws b s sight (bare_by s s' e none _ _ (look_at b.words s) k)

-- THE PAIR IS THE RUN
module _ (words : List ℕ) where
  abbrev PairIs : List ℕ → Type 0
  PairIs sights =
      (h : Head) → h.state.running ≡ true → all_sights sights ≡ true → (n held : ℕ) (list : List ℕ)
      → pair_from (unit words h) sights n held list ≡ ran_by (unit words h) (run_from (buffer words h.cursor) sights h.state n held list)

  module _ (g : ℕ) (gs : List ℕ) (more : PairIs gs) (h : Head) (runs : h.state.running ≡ true) (sight : leb g 2 ≡ true) (sights : all_sights gs ≡ true) (n held : ℕ) (list : List ℕ) where
    abbrev own : List Item
    own = items_drawn (buffer words h.cursor) h.state g

    abbrev list' : List ℕ
    list' = listed list held own

    abbrev Is : Stepped → Option ℕ → Type 0
    Is st l =
        pair_from (unit words h) (g ∷ gs) n held list
        ≡ ran_by (unit words h) (course_by h.state n held list list' (λ s' k. run_from (buffer words h.cursor) gs s' (n + 1) k list') st l)

    -- a step that is not done
    undone : (x : State) (e : Stop) → step_from words h.state g ≡ Stops x e → steps_at e ≡ 0
        → pair_from (unit words h) (g ∷ gs) n held list ≡ ran_by (unit words h) (not_done h.state n held list list' x e)
    undone x e f none =
        let bare = ap (λ (is : List Item). length is) (not_done_bare (buffer words h.cursor) h.state x g e f none) in
        let same : n + steps_at e ≡ n = omega (arith, none) in
        one_listed words h runs g gs n held held list sight (none_listing (length list) held own bare)
        ∙ over_stops words h runs n held list' (λ u' n'. pair_from u' gs n' held list') g [] x e f
        ∙ ap (λ (j : ℕ). run_end (unit words (head_after h (progress x 0 (Stopped e)))) (RunValues.ran j (stop_number e) held) list') same
        ∙ ap (λ (l : List ℕ). run_end (unit words (head_after h (progress x 0 (Stopped e)))) (RunValues.ran n (stop_number e) held) l) (none_listed list held own bare)

    -- one that ends the run and counts
    ends : (x : State) (e : Stop) → step_from words h.state g ≡ Stops x e → steps_at e ≡ 1 → (l : Option ℕ) → listing (length list) held own ≡ l
        → pair_from (unit words h) (g ∷ gs) n held list ≡ ran_by (unit words h) (ended_with h.state n held list list' x e l)
    ends x e f one None d = one_full words h runs g gs n held list sight d
    ends x e f one (Some k) d =
        one_listed words h runs g gs n held k list sight d ∙ over_stops words h runs n k list' (λ u' n'. pair_from u' gs n' k list') g [] x e f
        ∙ ap (λ (j : ℕ). run_end (unit words (head_after h (progress x 0 (Stopped e)))) (RunValues.ran (n + j) (stop_number e) k) list') one

    is_by : (st : Stepped) → step_from words h.state g ≡ st → (l : Option ℕ) → listing (length list) held own ≡ l → Is st l
    is_by (Goes x) f None d = one_full words h runs g gs n held list sight d
    is_by (Goes x) f (Some k) d =
        let runs' = still_runs words h.state x g f ∙ runs in
        one_listed words h runs g gs n held k list sight d
        ∙ over_goes words h runs n k list' (λ u' n'. pair_from u' gs n' k list') g [] x f runs'
        ∙ over_none words (with_state h x) runs' (n + 1) k list' (λ u' n'. pair_from u' gs n' k list')
        ∙ more (with_state h x) runs' sights (n + 1) k list'
    is_by (Stops x (stop.Fault q)) f l d = undone x (stop.Fault q) f refl
    is_by (Stops x stop.EndOrder) f l d = ends x stop.EndOrder f refl l d
    is_by (Stops x stop.Detect) f l d = ends x stop.Detect f refl l d
    is_by (Stops x stop.DataCheck) f l d = undone x stop.DataCheck f refl

  pair_is : (sights : List ℕ) → PairIs sights
  unfolding run_from all_sights
  pair_is [] h runs e n held list = pair_none words h runs n held list
  pair_is (g ∷ gs) h runs e n held list =
      is_by g gs (pair_is gs) h runs ((and-eq-true_iff (leb g 2) (all_sights gs)).0 e).0 ((and-eq-true_iff (leb g 2) (all_sights gs)).0 e).1 n held list
      (step_from words h.state g) refl (listing (length list) held (items_drawn (buffer words h.cursor) h.state g)) refl

pub gives_the_run : GivesTheRun
unfolding pair_run unit_run
gives_the_run u sights list = by (all_sights sights) refl
  where
    by_run : (t : Bool) → u.head.state.running ≡ t → all_sights sights ≡ true
        → pair_from u sights 0 0 list
        ≡ ran_by u (cond t (run_from (buffer_of u) sights u.head.state 0 0 list) (course u.head.state 0 (Ended NotRunning) 0 list))
    by_run true r e = pair_is u.words sights u.head r e 0 0 list
    by_run false r e = pair_still u.words u.head r list sights e

    by : (t : Bool) → all_sights sights ≡ t
        → cond t (pair_from u sights 0 0 list) (run_end u (RunValues.refused 8) list)
        ≡ cond t
        (ran_by u (cond u.head.state.running (run_from (buffer_of u) sights u.head.state 0 0 list) (course u.head.state 0 (Ended NotRunning) 0 list)))
        (run_end u (RunValues.refused 8) list)
    by true e = by_run u.head.state.running refl e
    by false e = refl

-- STEPS THAT ALL GO ON, and then more
over_all : (words : List ℕ) (h : Head) → h.state.running ≡ true → (a : List ℕ) (x : State) → steps_from words a h.state ≡ Goes x → (n m : ℕ) (list : List ℕ)
    → (more : DisplayUnit → ℕ → RunEnd) → advances_by (gone_over (unit words h) a) n m list more ≡ more (unit words (with_state h x)) (n + length a)
unfolding gone_over progress_over
over_all words h runs a x e n m list more = simp (runs, e, all_done words a h.state x e)

-- WHERE ALL FITS
module _ (u : DisplayUnit) (runs : u.head.state.running ≡ true) (sights list : List ℕ) (k : ℕ) where
  abbrev whole : List ℕ
  whole = listed list 0 (items_run (buffer_of u) sights u.head.state)

  fits_by : (st : Stepped) → steps_from u.words sights u.head.state ≡ st
      → advances_by (advanced_by u (progress_by (steps_done u.words sights u.head.state) st)) 0 k whole (λ u' n'. pair_from u' [] n' k whole)
      ≡ run_end (advanced_by u (progress_by (steps_done u.words sights u.head.state) st)).unit
      (with_items (advanced_by u (progress_by (steps_done u.words sights u.head.state) st)).answer k) whole
  fits_by (Goes x) e =
      let d : 0 + steps_done u.words sights u.head.state ≡ steps_done u.words sights u.head.state = omega arith in
      pair_none u.words (with_state u.head x) (all_run u.words sights u.head.state x e ∙ runs) (0 + steps_done u.words sights u.head.state) k whole
      ∙ ap (λ (j : ℕ). run_end (unit u.words (with_state u.head x)) (RunValues.ran j 0 k) whole) d
  fits_by (Stops x s) e =
      let d : 0 + steps_done u.words sights u.head.state ≡ steps_done u.words sights u.head.state = omega arith in
      simp (stop_number_lem s)
      (ap (λ (j : ℕ). run_end (unit u.words (head_after u.head (progress x 0 (Stopped s)))) (RunValues.ran j (stop_number s) k) whole) d)

  over_fits : advances_by (gone_over u sights) 0 k whole (λ u' n'. pair_from u' [] n' k whole)
      ≡ run_end (gone_over u sights).unit (with_items (gone_over u sights).answer k) whole
  unfolding gone_over progress_over
  over_fits = simp runs (fits_by (steps_from u.words sights u.head.state) refl)

pub all_fits : AllFits
unfolding pair_run
all_fits u sights list k runs all fits =
    rw (advance_all u sights all)
    (simp all
    (ap (λ (l : List ℕ). pair_from u l 0 0 list) (sym (append-nil sights))
    ∙ pair_over u.words [] sights u.head runs 0 0 k list all fits
    ∙ over_fits u runs sights list k))

-- WHERE NOT
below_nine : {A : Type 0} (e : Stop) → stop_number e ≡ 9 → A
below_nine (stop.Fault fault.Unwritten) k = absurd (omega arith)
below_nine (stop.Fault fault.NoRow) k = absurd (omega arith)
below_nine (stop.Fault fault.OddTarget) k = absurd (omega arith)
below_nine (stop.Fault fault.FarTarget) k = absurd (omega arith)
below_nine (stop.Fault fault.OrderForY) k = absurd (omega arith)
below_nine stop.EndOrder k = absurd (omega arith)
below_nine stop.Detect k = absurd (omega arith)
below_nine stop.DataCheck k = absurd (omega arith)

-- a run that ended with 9 behind m steps, n of them done before
record Found (u : DisplayUnit) (sights : List ℕ) (n held : ℕ) (list : List ℕ) (m k : ℕ) : Type 0 where
  steps : ℕ
  same : m ≡ n + steps
  there : NextTooMuch u sights held list steps k

module _ (words : List ℕ) where
  abbrev Finds : List ℕ → Type 0
  Finds sights =
      (h : Head) → h.state.running ≡ true → all_sights sights ≡ true → (n held : ℕ) (list : List ℕ) (m k : ℕ)
      → (pair_from (unit words h) sights n held list).answer ≡ RunValues.ran m 9 k → Found (unit words h) sights n held list m k

  module _ (g : ℕ) (gs : List ℕ) (more : Finds gs) (h : Head) (runs : h.state.running ≡ true) (sight : leb g 2 ≡ true) (sights : all_sights gs ≡ true) (n held : ℕ) (list : List ℕ) (m k : ℕ) (ended : (pair_from (unit words h) (g ∷ gs) n held list).answer ≡ RunValues.ran m 9 k) where
    abbrev drawn : List Item
    drawn = items_drawn (buffer words h.cursor) h.state g

    abbrev listed' : List ℕ
    listed' = listed list held drawn

    -- here
    finds_here : listing (length list) held drawn ≡ None → Found (unit words h) (g ∷ gs) n held list m k
    unfolding items_run
    finds_here d =
        let e = sym (ap (λ (r : RunEnd). r.answer) (one_full words h runs g gs n held list sight d)) ∙ ended in
        let same : n ≡ m = cc in
        let all : held ≡ k = cc in
        record {
          steps = 0;
          same = omega (arith, same);
          there = record {
            behind = h.state;
            next = omega arith;
            gone = steps.over_none words (g ∷ gs) h.state;
            fits = none_listing (length list) held [] refl ∙ ap Some all;
            full = ap (λ (j : ℕ). listing (length list) j drawn) (sym all) ∙ d;
          };
        }

    -- or behind a step that goes on
    module _ (k₁ : ℕ) (d : listing (length list) held drawn ≡ Some k₁) (x : State) (f : step_from words h.state g ≡ Goes x) where
      long : length listed' ≡ length list
      long = length_listed list held drawn

      onto : pair_from (unit words h) (g ∷ gs) n held list ≡ pair_from (unit words (with_state h x)) gs (n + 1) k₁ listed'
      onto =
          let runs' = still_runs words h.state x g f ∙ runs in
          one_listed words h runs g gs n held k₁ list sight d
          ∙ over_goes words h runs n k₁ listed' (λ u' n'. pair_from u' gs n' k₁ listed') g [] x f runs'
          ∙ over_none words (with_state h x) runs' (n + 1) k₁ listed' (λ u' n'. pair_from u' gs n' k₁ listed')

      behind_it : Found (unit words (with_state h x)) gs (n + 1) k₁ listed' m k → Found (unit words h) (g ∷ gs) n held list m k
      unfolding steps_from items_run
      behind_it r =
          let t = r.there in
          let rest = items_run (buffer words h.cursor) (take r.steps gs) x in
          record {
            steps = suc r.steps;
            same = omega (arith, r.same);
            there = record {
              behind = t.behind;
              next = omega (arith, t.next);
              gone = record { within = omega (arith, t.gone.within); goes = simp f t.gone.goes };
              fits = simp f (listing_append held k₁ k drawn rest (length list) d (ap (λ (j : ℕ). listing j k₁ rest) (sym long) ∙ t.fits));
              full = ap (λ (j : ℕ). listing j k (items_drawn (buffer words h.cursor) t.behind (get_or gs r.steps 0))) (sym long) ∙ t.full;
            };
          }

    finds_by : (l : Option ℕ) → listing (length list) held drawn ≡ l → (st : Stepped) → step_from words h.state g ≡ st → Found (unit words h) (g ∷ gs) n held list m k
    finds_by None d st f = finds_here d
    finds_by (Some k₁) d (Goes x) f =
        let e = sym (ap (λ (r : RunEnd). r.answer) (onto k₁ d x f)) ∙ ended in
        behind_it k₁ d x f (more (with_state h x) (still_runs words h.state x g f ∙ runs) sights (n + 1) k₁ listed' m k e)
    finds_by (Some k₁) d (Stops x s) f =
        let stops = one_listed words h runs g gs n held k₁ list sight d ∙ over_stops words h runs n k₁ listed' (λ u' n'. pair_from u' gs n' k₁ listed') g [] x s f in
        let e = sym (ap (λ (r : RunEnd). r.answer) stops) ∙ ended in
        let nine : stop_number s ≡ 9 = cc in
        below_nine s nine

  finds : (sights : List ℕ) → Finds sights
  unfolding all_sights
  finds [] h runs all n held list m k ended =
      let e = sym (ap (λ (r : RunEnd). r.answer) (pair_none words h runs n held list)) ∙ ended in
      let nine : ◌≡◌ {A = ℕ} 0 9 = cc in
      absurd (omega arith)
  finds (g ∷ gs) h runs all n held list m k ended =
      finds_by g gs (finds gs) h runs ((and-eq-true_iff (leb g 2) (all_sights gs)).0 all).0 ((and-eq-true_iff (leb g 2) (all_sights gs)).0 all).1 n held list m k ended
      (listing (length list) held (items_drawn (buffer words h.cursor) h.state g)) refl (step_from words h.state g) refl

module _ (u : DisplayUnit) (sights list : List ℕ) (n k : ℕ) (runs : u.head.state.running ≡ true) (all : all_sights sights ≡ true) where
  nine_only : (pair_run u sights list).answer ≡ RunValues.ran n 9 k → NextTooMuch u sights 0 list n k
  unfolding pair_run
  nine_only e =
      let f = finds u.words sights u.head runs all 0 0 list n k (simp all at e) in
      let same : f.steps ≡ n = omega (arith, f.same) in
      subst (λ (j : ℕ). NextTooMuch u sights 0 list j k) same f.there

  module _ (t : NextTooMuch u sights 0 list n k) where
    abbrev done : List ℕ
    done = take n sights

    abbrev listed'' : List ℕ
    listed'' = listed list 0 (items_run (buffer_of u) done u.head.state)

    the_next : drop n sights ≡ get_or sights n 0 ∷ drop (n + 1) sights
    the_next = next_sight u.words sights u.head.state n t.behind t.gone t.next

    good_next : leb (get_or sights n 0) 2 ≡ true
    unfolding all_sights
    good_next =
        ((and-eq-true_iff (leb (get_or sights n 0) 2) (all_sights (drop (n + 1) sights))).0 (subst (λ (l : List ℕ). all_sights l ≡ true) the_next (all_drop n sights all))).0

    full_next : pair_from (unit u.words (with_state u.head t.behind)) (drop n sights) n k listed''
        ≡ run_end (unit u.words (with_state u.head t.behind)) (RunValues.ran n 9 k) listed''
    full_next =
        let h = with_state u.head t.behind in
        let runs' = all_run u.words done u.head.state t.behind t.gone.goes ∙ runs in
        let long = length_listed list 0 (items_run (buffer_of u) done u.head.state) in
        let full = ap (λ (j : ℕ). listing j k (items_drawn (buffer_of u) t.behind (get_or sights n 0))) long ∙ t.full in
        ap (λ (l : List ℕ). pair_from (unit u.words h) l n k listed'') the_next
        ∙ one_full u.words h runs' (get_or sights n 0) (drop (n + 1) sights) n k listed'' good_next full

    nine_there : pair_run u sights list ≡ run_end (unit u.words (with_state u.head t.behind)) (RunValues.ran n 9 k) listed''
    unfolding pair_run
    nine_there =
        let steps : 0 + length done ≡ n = omega (arith, length-take-le n sights t.gone.within) in
        simp all
        (ap (λ (l : List ℕ). pair_from u l 0 0 list) (sym (take-append-drop n sights))
        ∙ pair_over u.words (drop n sights) done u.head runs 0 0 k list (all_take n sights all) t.fits
        ∙ over_all u.words u.head runs done t.behind t.gone.goes 0 k listed'' (λ u' n'. pair_from u' (drop n sights) n' k listed'')
        ∙ ap (λ (j : ℕ). pair_from (unit u.words (with_state u.head t.behind)) (drop n sights) j k listed'') steps
        ∙ full_next)

pub nine : Nine
nine u sights list n k runs all = record { only = nine_only u sights list n k runs all; where_full = λ t. nine_there u sights list n k runs all t }
