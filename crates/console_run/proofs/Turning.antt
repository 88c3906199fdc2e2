-- A turn of a run with its list: steps that were listed at once and gone over lead where the pair does. Assumes nothing.
use Rattle.std.specs.Prelude.{Err, None, Ok, Option, Result, Some}
use Rattle.std.specs.Result.{result_unwrap_or}
use Prim.Native.Nat.{ℕ, ◌+◌, ◌-◌, ◌≤◌, ◌<◌}
use native.Mathlib.Omega.{arith}
use mathlib.Core.Path.{◌≡◌, refl, sym, ap, subst, ◌∙◌}
use mathlib.Core.Bool.{true, false, false≢true, and-eq-true_iff}
use mathlib.Core.List.{List, [], ◌∷◌, ◌++◌}
use lib.Dec.{leb}
use lib.ListN.{length, take, drop, get_or, length-append, length-drop, drop_of_length-le, take-append-drop}
use lib.Seq.{take_all, drop-drop, drop-append_seam, length-take-le}
use borrow.Author.Tests.{eq-eqb}
use Rattle.ground_refusals.specs.declared.Refusal.{Refusal}
use Rattle.unit_cursor.specs.Cursor.{buffer}
use Rattle.unit_items.specs.Items.{listing, listed}
use Rattle.unit_items.specs.declared.Item.{Item}
use Rattle.unit_items.proofs.Laws.{none_listing, none_listed}
use Rattle.unit_head.specs.Head.{DisplayUnit, unit}
use Rattle.unit_head.specs.declared.Head.{Head}
use Rattle.unit_step.specs.Run.{steps_from, steps_done, items_run, is_idle, idle_steps}
use Rattle.unit_step.specs.declared.Stepped.{Stepped}
use Rattle.unit_step.specs.declared.Stepped.TheVariants.{Goes, Stops}
use Rattle.unit_step.proofs.Laws.{all_done, done_within, all_run, idle_some, idle_run, idle_within}
use Rattle.unit_advance.specs.Advance.{stop_number, end_number, progress_by, progress_over, AdvanceValues, AdvanceEnd, advance_ended, advanced_by, gone_over, all_sights, unit_advance, idle_advance}
use Rattle.unit_advance.specs.declared.End.{End}
use Rattle.unit_advance.specs.declared.End.TheVariants.{SightsUsed, Stopped, NotRunning}
use Rattle.unit_advance.specs.declared.Advanced.{Advanced}
use Rattle.unit_list.specs.List.{next_items, listing_values, list_values, ListEnd, list_ended, unit_list}
use Rattle.unit_ahead.specs.Ahead.{ListsAhead}
use Rattle.unit_ahead.specs.declared.AheadListed.{AheadListed}
use Rattle.console_run.specs.declared.Outcome.{Outcome}
use Rattle.console_run.specs.declared.Outcome.TheVariants.{Ended, NoRoom}
use Rattle.console_run.specs.declared.Turn.{Turn}
use Rattle.console_run.specs.Pair.{RunValues, run_end, run_ended, advanced_to, listed_to, advances_by, pair_from}
use Rattle.console_run.specs.Turns.{turn_end, turn_gone, leads_by, leads_to, OnwardsBy, Onwards, Takes}
use Rattle.console_run.proofs.Laws.{stop_number_lem, pair_none, pair_over}

-- A TURN of steps that were gone over
module _ (words : List ℕ) (h : Head) (runs : h.state.running ≡ true) (h' : Head) (gone : Advanced) (a rest : List ℕ) (told : advance_ended words h' (Ok gone) ≡ gone_over (unit words h) a) where
  -- where they are used up, all were done, and the unit runs
  record Used (k : ℕ) (u : DisplayUnit) : Type 0 where
    all : k ≡ length a
    still : u.head.state.running ≡ true

  used_by_lem : (k d : ℕ) (st : Stepped) → d ≡ steps_done words a h.state → steps_from words a h.state ≡ st
      → (advanced_by (unit words h) (progress_by d st)).answer ≡ AdvanceValues.advanced k 0 → Used k (advanced_by (unit words h) (progress_by d st)).unit
  used_by_lem k d (Goes x) c e f =
      let same : d ≡ k = cc in
      record { all = sym same ∙ c ∙ all_done words a h.state x e; still = all_run words a h.state x e ∙ runs }
  used_by_lem k d (Stops x stop) c e f =
      let zero : stop_number stop ≡ 0 = cc in
      absurd (false≢true (sym (stop_number_lem stop) ∙ eq-eqb (stop_number stop) 0 zero))

  used_up : gone.end ≡ SightsUsed → Used gone.steps (unit words h')
  unfolding gone_over progress_over
  used_up e =
      let u = ap (λ (x : AdvanceEnd). x.unit) told in
      let v = ap (λ (x : AdvanceEnd). x.answer) told in
      let answer : AdvanceValues.advanced gone.steps 0 ≡ (gone_over (unit words h) a).answer =
      ap (λ (x : End). AdvanceValues.advanced gone.steps (end_number x)) (sym e) ∙ v in
      rw u (simp runs (used_by_lem gone.steps (steps_done words a h.state) (steps_from words a h.state) refl refl (simp runs at (sym answer))))

  module _ (n m : ℕ) (list : List ℕ) where
    leads_lem : (x : End) → gone.end ≡ x
        → advanced_to n m list (λ u' n'. pair_from u' rest n' m list) (unit words h') (AdvanceValues.advanced gone.steps (end_number x))
        ≡ leads_by words (a ++ rest) n list h' gone.steps m (turn_end x)
    leads_lem SightsUsed e =
        ap (λ (l : List ℕ). pair_from (unit words h') l (n + gone.steps) m list)
        (sym (drop-append_seam a rest) ∙ ap (λ (j : ℕ). drop j (a ++ rest)) (sym (used_up e).all))
    leads_lem (Stopped s) e = simp (stop_number_lem s)
    leads_lem NotRunning e = refl

    -- where it leads
    pub turn_leads : advances_by (gone_over (unit words h) a) n m list (λ u' n'. pair_from u' rest n' m list) ≡ leads_to words (a ++ rest) n list h' (turn_gone gone m)
    turn_leads =
        ap (λ (e : AdvanceEnd). advances_by e n m list (λ u' n'. pair_from u' rest n' m list)) (sym told) ∙ leads_lem gone.end refl

  -- no more steps are done than there are sights
  done_lem : gone.steps ≤ length a
  unfolding gone_over progress_over
  done_lem = by (steps_from words a h.state) (simp runs at (ap (λ (x : AdvanceEnd). x.answer) told))
    where
      by : (st : Stepped) → AdvanceValues.advanced gone.steps (end_number gone.end) ≡ (advanced_by (unit words h) (progress_by (steps_done words a h.state) st)).answer
          → gone.steps ≤ length a
      by (Goes x) g = let same : gone.steps ≡ steps_done words a h.state = cc in omega (arith, done_within words a h.state)
      by (Stops x s) g = let same : gone.steps ≡ steps_done words a h.state = cc in omega (arith, done_within words a h.state)

  -- and that it goes on, where it does
  onwards_lem : 0 < length a → (x : End) → gone.end ≡ x → OnwardsBy (a ++ rest) h' gone.steps (turn_end x)
  onwards_lem some SightsUsed e =
      ((used_up e).still, omega (arith, (used_up e).all), omega (arith, (used_up e).all, length-append a rest))
  onwards_lem some (Stopped s) e = omega (arith, done_lem, length-append a rest)
  onwards_lem some NotRunning e = omega (arith, done_lem, length-append a rest)

  pub turn_onwards : (m : ℕ) → 0 < length a → Onwards (a ++ rest) h' (turn_gone gone m)
  turn_onwards m some = onwards_lem some gone.end refl

-- sights that are none above 2, some of them
pub all_first : (a c : List ℕ) → all_sights (a ++ c) ≡ true → all_sights a ≡ true
unfolding all_sights
all_first [] c e = refl
all_first (g ∷ a) c e = let q = (and-eq-true_iff (leb g 2) (all_sights (a ++ c))).0 e in simp (q.0, all_first a c q.1)

pub all_second : (a c : List ℕ) → all_sights (a ++ c) ≡ true → all_sights c ≡ true
unfolding all_sights
all_second [] c e = e
all_second (g ∷ a) c e = all_second a c ((and-eq-true_iff (leb g 2) (all_sights (a ++ c))).0 e).1

pub all_take : (k : ℕ) (sights : List ℕ) → all_sights sights ≡ true → all_sights (take k sights) ≡ true
all_take k sights e = all_first (take k sights) (drop k sights) (ap all_sights (take-append-drop k sights) ∙ e)

pub all_drop : (k : ℕ) (sights : List ℕ) → all_sights sights ≡ true → all_sights (drop k sights) ≡ true
all_drop k sights e = all_second (take k sights) (drop k sights) (ap all_sights (take-append-drop k sights) ∙ e)

-- advancing over such sights is not refused
pub advance_all : (u : DisplayUnit) (sights : List ℕ) → all_sights sights ≡ true → unit_advance u sights ≡ gone_over u sights
unfolding unit_advance
advance_all u sights e = simp e

-- A TURN over the first k sights
module _ (words sights : List ℕ) (h : Head) (runs : h.state.running ≡ true) (all : all_sights sights ≡ true) (k : ℕ) (some : 0 < k) (within : k ≤ length sights) where
  pub takes_over : (h' : Head) (gone : Advanced) → advance_ended words h' (Ok gone) ≡ gone_over (unit words h) (take k sights) → (held m : ℕ) (list : List ℕ)
      → listing (length list) held (items_run (buffer words h.cursor) (take k sights) h.state) ≡ Some m
      → Takes words sights h held list h' (turn_gone gone m) (listed list held (items_run (buffer words h.cursor) (take k sights) h.state))
  takes_over h' gone told held m list fits =
      let a = take k sights in
      let rest = drop k sights in
      let list' = listed list held (items_run (buffer words h.cursor) a h.state) in
      let whole = take-append-drop k sights in
      let long = length-take-le k sights within in
      record {
        leads = λ n.
            subst (λ (l : List ℕ). pair_from (unit words h) l n held list ≡ leads_to words l n list' h' (turn_gone gone m)) whole
            (pair_over words rest a h runs n held m list (all_take k sights all) fits ∙ turn_leads words h runs h' gone a rest told n m list');
        onwards = subst (λ (l : List ℕ). Onwards l h' (turn_gone gone m)) whole (turn_onwards words h runs h' gone a rest told m (omega (arith, long)));
      }

-- A TURN by the next step, as listing it answers
module _ (words : List ℕ) (h : Head) (runs : h.state.running ≡ true) (held : ℕ) (list list' : List ℕ) where
  abbrev Tells : ℕ → Result (Option ℕ) Refusal → Type 0
  Tells g r = list_ended r list' ≡ unit_list (unit words h) g held list

  next : (r : Result (Option ℕ) Refusal) (g : ℕ) (gs : List ℕ) → all_sights (g ∷ gs) ≡ true → Tells g r → (n : ℕ)
      → pair_from (unit words h) (g ∷ gs) n held list
      ≡ listed_to (unit words h) n held list' (λ k. advances_by (gone_over (unit words h) (g ∷ [])) n k list' (λ u' n'. pair_from u' gs n' k list')) (list_values r)
  unfolding pair_from
  next r g gs all told n = rw (← told, advance_all (unit words h) (g ∷ []) (all_take 1 (g ∷ gs) all)) refl

  -- it is not refused
  not_refused : {A : Type 0} (x : Refusal) (g : ℕ) (gs : List ℕ) → all_sights (g ∷ gs) ≡ true → Tells g (Err x) → A
  unfolding unit_list all_sights
  not_refused x g gs all told = by (listing (length list) held (next_items (unit words h) g)) (simp ((and-eq-true_iff (leb g 2) (all_sights gs)).0 all).0 at told)
    where
      by : {A : Type 0} {y : List ℕ} (l : Option ℕ) → list_ended (Err x) list' ≡ record { answer = listing_values l; list = y } → A
      by None e = let v = ap (λ (w : ListEnd). w.answer) e in let z : ◌≡◌ {A = ℕ} 0 1 = cc in absurd (omega arith)
      by (Some k) e = let v = ap (λ (w : ListEnd). w.answer) e in let z : ◌≡◌ {A = ℕ} 0 1 = cc in absurd (omega arith)

  -- the answer of listing the first of some sights, where a refusal counts as no room
  module _ (sights : List ℕ) (some : 0 < length sights) (all : all_sights sights ≡ true) (r : Result (Option ℕ) Refusal) (told : Tells (get_or sights 0 0) r) where
    answered : (x : Option ℕ) → result_unwrap_or r None ≡ x → Tells (get_or sights 0 0) (Ok x)
    answered x same = subst (λ (x : Option ℕ). Tells (get_or sights 0 0) (Ok x)) same (by sights some all r told)
      where
        by : (l : List ℕ) → 0 < length l → all_sights l ≡ true → (r : Result (Option ℕ) Refusal) → Tells (get_or l 0 0) r
            → Tells (get_or l 0 0) (Ok (result_unwrap_or r None))
        by [] k e r d = absurd (omega arith)
        by (g ∷ gs) k e (Ok y) d = d
        by (g ∷ gs) k e (Err y) d = not_refused y g gs e d

    -- no room
    pub takes_full : (x : Option ℕ) → x ≡ result_unwrap_or r None → x ≡ None
        → Takes words sights h held list h (record { steps = 0; held = held; end = Some NoRoom }) list'
    takes_full x same full = by sights some all (answered None (sym same ∙ full))
      where
        by : (l : List ℕ) → 0 < length l → all_sights l ≡ true → Tells (get_or l 0 0) (Ok None) → Takes words l h held list h (record { steps = 0; held = held; end = Some NoRoom }) list'
        by [] k e d = absurd (omega arith)
        by (g ∷ gs) k e d =
            record {
              leads = λ n. next (Ok None) g gs e d n ∙ ap (λ (j : ℕ). run_end (unit words h) (RunValues.ran j 9 held) list') (omega arith);
              onwards = omega arith;
            }

    -- it is done
    pub takes_one : (x : Option ℕ) → x ≡ result_unwrap_or r None → (m : ℕ) → x ≡ Some m → (h' : Head) (gone : Advanced) → advance_ended words h' (Ok gone) ≡ gone_over (unit words h) (take 1 sights)
        → Takes words sights h held list h' (turn_gone gone m) list'
    takes_one x same m holds h' gone done = by sights some all (answered (Some m) (sym same ∙ holds)) done
      where
        by : (l : List ℕ) → 0 < length l → all_sights l ≡ true → Tells (get_or l 0 0) (Ok (Some m)) → advance_ended words h' (Ok gone) ≡ gone_over (unit words h) (take 1 l)
            → Takes words l h held list h' (turn_gone gone m) list'
        by [] k e d f = absurd (omega arith)
        by (g ∷ gs) k e d f =
            record {
              leads = λ n. next (Ok (Some m)) g gs e d n ∙ turn_leads words h runs h' gone (g ∷ []) gs f n m list';
              onwards = turn_onwards words h runs h' gone (g ∷ []) gs f m (omega arith);
            }

-- A TURN of idle steps: they draw nothing
module _ (words sights : List ℕ) (h : Head) (runs : h.state.running ≡ true) (all : all_sights sights ≡ true) where
  pub takes_idle : 0 < length sights → is_idle h.state.mode ≡ true → (h' : Head) (gone : Advanced) → advance_ended words h' (Ok gone) ≡ idle_advance (unit words h) sights
      → (held : ℕ) (list : List ℕ) → Takes words sights h held list h' (turn_gone gone held) list
  unfolding idle_advance
  takes_idle some idle h' gone told held list =
      let k = idle_steps words sights h.state in
      let none = ap (λ (is : List Item). length is) (idle_run (buffer words h.cursor) sights h.state) in
      let items = items_run (buffer words h.cursor) (take k sights) h.state in
      subst (λ (l : List ℕ). Takes words sights h held list h' (turn_gone gone held) l) (none_listed list held items none)
      (takes_over words sights h runs all k (idle_some words sights h.state some idle) (idle_within words sights h.state) h' gone told held held list (none_listing (length list) held items none))

  -- and of a stretch that was listed
  module _ (held : ℕ) (list : List ℕ) (r : AheadListed) (list' : List ℕ) (ahead : ListsAhead (buffer words h.cursor) sights h.state held list r list') where
    pub takes_ahead : 0 < r.steps → (h' : Head) (gone : Advanced) → advance_ended words h' (Ok gone) ≡ gone_over (unit words h) (take r.steps sights)
        → Takes words sights h held list h' (turn_gone gone r.held) list'
    takes_ahead some h' gone told =
        subst (λ (l : List ℕ). Takes words sights h held list h' (turn_gone gone r.held) l) (sym ahead.puts)
        (takes_over words sights h runs all r.steps some ahead.gone.within h' gone told held r.held list ahead.holds)

-- where no step of it was listed, the list is as it was
pub nothing_ahead : (words sights : List ℕ) (h : Head) (held : ℕ) (list : List ℕ) (r : AheadListed) (list' : List ℕ)
    → ListsAhead (buffer words h.cursor) sights h.state held list r list' → r.steps ≤ 0 → list' ≡ list
unfolding items_run
nothing_ahead words sights h held list r list' ahead e =
    let zero-steps : r.steps ≡ 0 = omega arith in
    let none : length (items_run (buffer words h.cursor) (take r.steps sights) h.state) ≡ 0 =
    ap (λ (k : ℕ). length (items_run (buffer words h.cursor) (take k sights) h.state)) zero-steps in
    ahead.puts ∙ none_listed list held _ none

-- A RUN AS FAR AS IT HAS COME: over i sights, with so many items held
pub record Ran (words sights : List ℕ) (start : Head) (list : List ℕ) (i held : ℕ) (h : Head) (list' : List ℕ) : Type 0 where
  -- what is left of it leads to its end
  pub left : pair_from (unit words start) sights 0 0 list ≡ pair_from (unit words h) (drop i sights) i held list'
  -- the unit runs
  pub running : h.state.running ≡ true
  -- of so many sights as there are
  pub within : i ≤ length sights

module _ (words sights : List ℕ) (start : Head) (list : List ℕ) where
  pub ran_none : start.state.running ≡ true → Ran words sights start list 0 0 start list
  ran_none runs = record { left = refl; running = runs; within = omega arith }

  module _ (i held : ℕ) (h : Head) (list' : List ℕ) (r : Ran words sights start list i held h list') where
    pub ran_all : length sights ≤ i
        → run_ended words h (Ok (record { steps = i; outcome = Ended SightsUsed; items = held })) list' ≡ pair_from (unit words start) sights 0 0 list
    ran_all e = sym (r.left ∙ ap (λ (l : List ℕ). pair_from (unit words h) l i held list') (drop_of_length-le sights e) ∙ pair_none words h r.running i held list')

    -- one turn more
    module _ (list'' : List ℕ) (x : Head) (t : Turn) (takes : Takes words (take (length sights - i) (drop i sights)) h held list' x t list'') where
      taken : (o : Option Outcome) → t.end ≡ o → Takes words (drop i sights) h held list' x (record { steps = t.steps; held = t.held; end = o }) list''
      taken o e =
          subst (λ (l : List ℕ). Takes words l h held list' x (record { steps = t.steps; held = t.held; end = o }) list'')
          (take_all (length sights - i) (drop i sights) (omega (arith, length-drop i sights)))
          (subst (λ (o : Option Outcome). Takes words (take (length sights - i) (drop i sights)) h held list' x (record { steps = t.steps; held = t.held; end = o }) list'') e takes)

      pub ran_on : t.end ≡ None → Ran words sights start list (i + t.steps) t.held x list'' × (0 < t.steps)
      ran_on e =
          let on = taken None e in (
            record {
              left = r.left ∙ on.leads i ∙ ap (λ (l : List ℕ). pair_from (unit words x) l (i + t.steps) t.held list'') (drop-drop t.steps i sights);
              running = on.onwards.0;
              within = omega (arith, on.onwards.2, length-drop i sights, r.within);
            },
            on.onwards.1,
          )

      module _ (o : Outcome) (e : t.end ≡ Some o) where
        pub ran_last : run_ended words x (Ok (record { steps = i + t.steps; outcome = o; items = t.held })) list'' ≡ pair_from (unit words start) sights 0 0 list
        ran_last = sym (r.left ∙ (taken (Some o) e).leads i)

        pub ran_within : i + t.steps ≤ length sights
        ran_within = omega (arith, (taken (Some o) e).onwards, length-drop i sights, r.within)

-- A UNIT THAT DOES NOT RUN ends with 10
module _ (words : List ℕ) (h : Head) (stands : h.state.running ≡ false) (list : List ℕ) where
  still_over : (sights : List ℕ) → gone_over (unit words h) sights ≡ record { unit = unit words h; answer = AdvanceValues.advanced 0 10 }
  unfolding gone_over
  still_over sights = simp stands

  still_list : (g : ℕ) → leb g 2 ≡ true → list_ended (Ok (Some 0)) list ≡ unit_list (unit words h) g 0 list
  unfolding unit_list next_items
  still_list g e = simp (stands, e, none_listing (length list) 0 [] refl, none_listed list 0 [] refl)

  pub pair_still : (sights : List ℕ) → all_sights sights ≡ true → pair_from (unit words h) sights 0 0 list ≡ run_end (unit words h) (RunValues.ran 0 10 0) list
  unfolding pair_from all_sights
  pair_still [] e = rw (advance_all (unit words h) [] refl, still_over []) refl
  pair_still (g ∷ gs) e =
      rw (← still_list g ((and-eq-true_iff (leb g 2) (all_sights gs)).0 e).0, advance_all (unit words h) (g ∷ []) (all_take 1 (g ∷ gs) e), still_over (g ∷ [])) refl
