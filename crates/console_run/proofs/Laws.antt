-- The pair over several steps: what they draw is listed at once, and the unit advances over all of them. Assumes nothing.
use Rattle.std.specs.Prelude.{None, Some}
use Prim.Native.Nat.{ℕ, suc, ◌+◌}
use native.Mathlib.Omega.{arith}
use mathlib.Core.Path.{◌≡◌, refl, sym, ap, ◌∙◌}
use mathlib.Core.Bool.{true, false, cond, and-eq-true_iff}
use mathlib.Core.List.{List, [], ◌∷◌, ◌++◌, append-nil}
use lib.Dec.{eqb, leb}
use lib.ListN.{length}
use Rattle.ground_look.specs.declared.Fault.{Fault}
use Rattle.ground_look.specs.declared.Fault.TheVariants as fault
use Rattle.ground_words.proofs.Laws.{either_way}
use Rattle.unit_cursor.specs.Cursor.{buffer}
use Rattle.unit_items.specs.Items.{listing, listed}
use Rattle.unit_items.specs.declared.Item.{Item}
use Rattle.unit_items.proofs.Laws.{none_listing, none_listed, full_listed, listing_split, listed_append, length_listed}
use Rattle.unit_head.specs.Head.{DisplayUnit, unit, with_state}
use Rattle.unit_head.specs.declared.Head.{Head}
use Rattle.unit_head.specs.declared.State.{State}
use Rattle.unit_step.specs.Step.{step_from, items_drawn}
use Rattle.unit_step.specs.Run.{steps_from, steps_at, steps_done, beyond, items_run}
use Rattle.unit_step.specs.declared.Stop.{Stop}
use Rattle.unit_step.specs.declared.Stop.TheVariants as stop
use Rattle.unit_step.specs.declared.Stepped.{Stepped}
use Rattle.unit_step.specs.declared.Stepped.TheVariants.{Goes, Stops}
use Rattle.unit_step.proofs.Laws.{still_runs}
use Rattle.unit_advance.specs.Advance.{fault_end, stop_number, progress, head_after, progress_by, progress_over, AdvanceValues, advanced_by, gone_over, all_sights, unit_advance}
use Rattle.unit_advance.specs.declared.End.TheVariants.{Stopped}
use Rattle.unit_list.specs.List.{next_items, ListValues, ListEnd, unit_list}
use Rattle.console_run.specs.Pair.{RunValues, RunEnd, run_end, advanced_to, listed_to, advances_by, pair_from, pair_run}

-- no stop is numbered 0
fault_number_lem : (f : Fault) → eqb (fault_end f) 0 ≡ false
fault_number_lem fault.Unwritten = refl
fault_number_lem fault.NoRow = refl
fault_number_lem fault.OddTarget = refl
fault_number_lem fault.FarTarget = refl
fault_number_lem fault.OrderForY = refl

pub stop_number_lem : (e : Stop) → eqb (stop_number e) 0 ≡ false
stop_number_lem (stop.Fault f) = fault_number_lem f
stop_number_lem stop.EndOrder = refl
stop_number_lem stop.Detect = refl
stop_number_lem stop.DataCheck = refl

-- what advancing over some sights comes to, by the first of them
module _ (words : List ℕ) (h : Head) (runs : h.state.running ≡ true) (n held : ℕ) (list : List ℕ) (more : DisplayUnit → ℕ → RunEnd) where
  -- none
  pub over_none : advances_by (gone_over (unit words h) []) n held list more ≡ more (unit words h) n
  unfolding gone_over progress_over steps_from steps_done
  over_none = simp runs (ap (λ (k : ℕ). more (unit words h) k) (omega arith))

  module _ (g : ℕ) (gs : List ℕ) (s : State) where
    -- one that goes on, and then the others
    pub over_goes : step_from words h.state g ≡ Goes s → s.running ≡ true
        → advances_by (gone_over (unit words h) (g ∷ gs)) n held list more ≡ advances_by (gone_over (unit words (with_state h s)) gs) (n + 1) held list more
    unfolding gone_over progress_over steps_from steps_done
    over_goes e r = simp (runs, r, e) (by (steps_from words gs s))
      where
        by : (st : Stepped)
            → advances_by (advanced_by (unit words h) (progress_by (suc (steps_done words gs s)) st)) n held list more
            ≡ advances_by (advanced_by (unit words (with_state h s)) (progress_by (steps_done words gs s) st)) (n + 1) held list more
        by (Goes x) = ap (λ (k : ℕ). more (unit words (with_state h x)) k) (omega arith)
        by (Stops x e) =
            let u = unit words (head_after h (progress x 0 (Stopped e))) in
            ap (λ (k : ℕ). cond (eqb (stop_number e) 0) (more u k) (run_end u (RunValues.ran k (stop_number e) held) list)) (omega arith)

    -- one that stops
    pub over_stops : (e : Stop) → step_from words h.state g ≡ Stops s e
        → advances_by (gone_over (unit words h) (g ∷ gs)) n held list more
        ≡ run_end (unit words (head_after h (progress s 0 (Stopped e)))) (RunValues.ran (n + steps_at e) (stop_number e) held) list
    unfolding gone_over progress_over steps_from steps_done
    over_stops e k = simp (runs, k, stop_number_lem e)

-- one step, listed and done
module _ (words : List ℕ) (h : Head) (runs : h.state.running ≡ true) where
  -- what it draws
  one_next : (g : ℕ) → next_items (unit words h) g ≡ items_drawn (buffer words h.cursor) h.state g
  unfolding next_items
  one_next g = simp runs

  pub one_listed : (g : ℕ) (gs : List ℕ) (n held k : ℕ) (list : List ℕ) → leb g 2 ≡ true
      → listing (length list) held (items_drawn (buffer words h.cursor) h.state g) ≡ Some k
      → pair_from (unit words h) (g ∷ gs) n held list
      ≡ advances_by (gone_over (unit words h) (g ∷ [])) n k (listed list held (items_drawn (buffer words h.cursor) h.state g))
      (λ u' n'. pair_from u' gs n' k (listed list held (items_drawn (buffer words h.cursor) h.state g)))
  unfolding pair_from unit_list unit_advance all_sights
  one_listed g gs n held k list e f = simp (e, one_next g, f)

  -- or with no room for what it draws
  pub one_full : (g : ℕ) (gs : List ℕ) (n held : ℕ) (list : List ℕ) → leb g 2 ≡ true
      → listing (length list) held (items_drawn (buffer words h.cursor) h.state g) ≡ None
      → pair_from (unit words h) (g ∷ gs) n held list ≡ run_end (unit words h) (RunValues.ran n 9 held) list
  unfolding pair_from unit_list
  one_full g gs n held list e f =
      simp (e, one_next g, f, full_listed list held (items_drawn (buffer words h.cursor) h.state g) f)

  -- no step
  pub pair_none : (n held : ℕ) (list : List ℕ) → pair_from (unit words h) [] n held list ≡ run_end (unit words h) (RunValues.ran n 0 held) list
  unfolding pair_from unit_advance all_sights
  pair_none n held list = over_none words h runs n held list (λ u' n'. run_end u' (RunValues.ran n' 0 held) list)

-- SEVERAL STEPS, listed at once and then gone over
module _ (words : List ℕ) (rest : List ℕ) where
  abbrev PairOver : List ℕ → Type 0
  PairOver a =
      (h : Head) → h.state.running ≡ true → (n held m : ℕ) (list : List ℕ) → all_sights a ≡ true
      → listing (length list) held (items_run (buffer words h.cursor) a h.state) ≡ Some m
      → pair_from (unit words h) (a ++ rest) n held list
      ≡ advances_by (gone_over (unit words h) a) n m (listed list held (items_run (buffer words h.cursor) a h.state))
      (λ u' n'. pair_from u' rest n' m (listed list held (items_run (buffer words h.cursor) a h.state)))

  none_over : PairOver []
  unfolding items_run
  none_over h runs n held m list sights e =
      let same : held ≡ m = cc (none_listing (length list) held [] refl) in
      let kept = none_listed list held [] refl in
      simp kept (sym (over_none words h runs n m list (λ u' n'. pair_from u' rest n' m list) ∙ ap (λ (k : ℕ). pair_from (unit words h) rest n k list) (sym same)))

  module _ (g : ℕ) (a : List ℕ) (more : PairOver a) (h : Head) (runs : h.state.running ≡ true) (n held m : ℕ) (list : List ℕ) (sight : leb g 2 ≡ true) (sights : all_sights a ≡ true) where
    abbrev own : List Item
    own = items_drawn (buffer words h.cursor) h.state g

    abbrev others : Stepped → List Item
    others st = beyond [] (λ x. items_run (buffer words h.cursor) a x) st

    by_step : (st : Stepped) → step_from words h.state g ≡ st → listing (length list) held (own ++ others st) ≡ Some m
        → pair_from (unit words h) (g ∷ (a ++ rest)) n held list
        ≡ advances_by (gone_over (unit words h) (g ∷ a)) n m (listed list held (own ++ others st)) (λ u' n'. pair_from u' rest n' m (listed list held (own ++ others st)))
    by_step (Goes x) e f =
        let k = held + length own in
        let p = listing_split (length list) held m own (others (Goes x)) f in
        let runs' = still_runs words h.state x g e ∙ runs in
        let list₁ = listed list held own in
        let long = length_listed list held own in
        let all = listed_append held k m own (others (Goes x)) list p.first p.then in
        one_listed words h runs g (a ++ rest) n held k list sight p.first
        ∙ over_goes words h runs n k list₁ (λ u' n'. pair_from u' (a ++ rest) n' k list₁) g [] x e runs'
        ∙ over_none words (with_state h x) runs' (n + 1) k list₁ (λ u' n'. pair_from u' (a ++ rest) n' k list₁)
        ∙ more (with_state h x) runs' (n + 1) k m list₁ sights (rw long p.then)
        ∙ ap (λ (l : List ℕ). advances_by (gone_over (unit words (with_state h x)) a) (n + 1) m l (λ u' n'. pair_from u' rest n' m l)) all
        ∙ sym (over_goes words h runs n m (listed list held (own ++ others (Goes x))) (λ u' n'. pair_from u' rest n' m (listed list held (own ++ others (Goes x)))) g a x e runs')
    by_step (Stops x stop) e f =
        let only = append-nil own in
        let f' : listing (length list) held own ≡ Some m = simp only at f in
        simp only
        (one_listed words h runs g (a ++ rest) n held m list sight f'
        ∙ over_stops words h runs n m (listed list held own) (λ u' n'. pair_from u' (a ++ rest) n' m (listed list held own)) g [] x stop e
        ∙ sym (over_stops words h runs n m (listed list held own) (λ u' n'. pair_from u' rest n' m (listed list held own)) g a x stop e))

  pub pair_over : (a : List ℕ) → PairOver a
  unfolding items_run all_sights
  pair_over [] h runs n held m list sights e = none_over h runs n held m list sights e
  pair_over (g ∷ a) h runs n held m list sights e =
      by_step g a (pair_over a) h runs n held m list ((and-eq-true_iff (leb g 2) (all_sights a)).0 sights).0 ((and-eq-true_iff (leb g 2) (all_sights a)).0 sights).1
      (step_from words h.state g) refl e

-- THE LIST stays as long as it was
module _ (list : List ℕ) where
  abbrev AsLong : RunEnd → Type 0
  AsLong e = length e.list ≡ length list

  list_long : (u : DisplayUnit) (g held : ℕ) → length (unit_list u g held list).list ≡ length list
  unfolding unit_list
  list_long u g held = either_way (λ (e : ListEnd). length e.list ≡ length list) (leb g 2) (length_listed list held (next_items u g)) refl

  module _ (n : ℕ) (list' : List ℕ) (same : length list' ≡ length list) where
    goes_long : (held : ℕ) (more : DisplayUnit → ℕ → RunEnd) → ((u : DisplayUnit) (k : ℕ) → AsLong (more u k)) → (u : DisplayUnit) (a : AdvanceValues)
        → AsLong (advanced_to n held list' more u a)
    goes_long held more long u (AdvanceValues.advanced steps why) = either_way AsLong (eqb why 0) (long u (n + steps)) same
    goes_long held more long u (AdvanceValues.refused k) = same

    lists_long : (u : DisplayUnit) (held : ℕ) (more : ℕ → RunEnd) → ((k : ℕ) → AsLong (more k)) → (a : ListValues) → AsLong (listed_to u n held list' more a)
    lists_long u held more long (ListValues.holds k) = long k
    lists_long u held more long ListValues.full = same
    lists_long u held more long (ListValues.refused k) = same

pair_from_long : (sights : List ℕ) (u : DisplayUnit) (n held : ℕ) (list : List ℕ) → length (pair_from u sights n held list).list ≡ length list
unfolding pair_from
pair_from_long [] u n held list =
    goes_long list n list refl held (λ u' n'. run_end u' (RunValues.ran n' 0 held) list) (λ u' k. refl) (unit_advance u []).unit (unit_advance u []).answer
pair_from_long (g ∷ gs) u n held list =
    let list' = (unit_list u g held list).list in
    let same = list_long list u g held in
    let a = unit_advance u (g ∷ []) in
    lists_long list n list' same u held (λ k. advances_by a n k list' (λ u' n'. pair_from u' gs n' k list'))
    (λ k. goes_long list n list' same k (λ u' n'. pair_from u' gs n' k list') (λ u' n'. pair_from_long gs u' n' k list' ∙ same) a.unit a.answer)
    (unit_list u g held list).answer

pub pair_long : (u : DisplayUnit) (sights list : List ℕ) → length (pair_run u sights list).list ≡ length list
unfolding pair_run
pair_long u sights list = either_way (AsLong list) (all_sights sights) (pair_from_long sights u 0 0 list) refl
