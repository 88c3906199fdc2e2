-- What a step of plain data draws, and a stretch as far as it is listed. Assumes nothing.
use Rattle.std.specs.Prelude.{None, Some}
use Prim.Native.Nat.{ℕ, ◌+◌, ◌≤◌, ◌<◌}
use native.Mathlib.Omega.{arith}
use mathlib.Core.Path.{◌≡◌, refl, sym, ap, subst, ◌∙◌}
use mathlib.Core.Bool.{Bool, true, false, cond, not}
use mathlib.Core.List.{List, [], ◌∷◌, ◌++◌}
use lib.ListN.{length, take, get_or, length-append}
use Rattle.ground_location.specs.Location.{data_of, cursor_of}
use Rattle.ground_look.specs.Look.{placing}
use Rattle.ground_orders.specs.declared.Mode.TheVariants as mode
use Rattle.unit_beam.specs.Beam.{shifted}
use Rattle.unit_beam.specs.declared.Beam.{Beam}
use Rattle.unit_beam.specs.declared.Shift.{Shift}
use Rattle.unit_beam.specs.declared.CharacterSize.{CharacterSize}
use Rattle.unit_beam.specs.declared.CharacterSize.TheVariants.{Basic, Large}
use Rattle.unit_motion.specs.Codes.{draws, after_code}
use Rattle.unit_drawing.specs.Drawing.{Stroke, stroke, point_at, vector_at, character_at, cursor_at, trace_strokes, has_cursor, code_strokes, codes_strokes, strokes_of, upto}
use Rattle.unit_drawing.proofs.Laws.{along, missed, unseen}
use Rattle.unit_motion.specs.Motion.{trace_by, two_of, four_of, off_of, beam_after, data_motion}
use Rattle.unit_motion.specs.declared.Motion.{Motion}
use Rattle.unit_motion.specs.declared.Motion.TheVariants.{To, Codes}
use Rattle.unit_motion.specs.declared.Moved.TheVariants.{Absolute, Increment}
use Rattle.unit_motion.specs.declared.Trace.TheVariants as trace
use Rattle.unit_items.specs.declared.Item.{Item}
use Rattle.unit_items.specs.Items.{listing, listed}
use Rattle.unit_items.proofs.Laws.{none_listing, none_listed, listed_on, length_listed, full_listed}
use Rattle.unit_cursor.specs.Cursor.{Buffer, buffer}
use Rattle.unit_cursor.specs.declared.Cursor.{Cursor}
use Rattle.unit_pen.specs.Pen.{seen_of}
use Rattle.unit_head.specs.declared.State.{State}
use Rattle.unit_step.specs.Step.{beamed, items_drawn}
use Rattle.unit_step.specs.Run.{items_run}
use Rattle.unit_step.proofs.Laws.{items_more}
use Rattle.unit_plain.specs.Plain.{clear_below, plain_data, span_of}
use Rattle.unit_plain.proofs.Laws.{here, ahead_same, plain_draws}
use Rattle.unit_stretch.proofs.Laws.{Covered, covered_none, covered_moved}
use Rattle.unit_ahead.specs.declared.AheadListed.{AheadListed}
use Rattle.unit_ahead.specs.Ahead.{led_to, blanked_of, trace_item, Traces, Writes, ListsAhead}

-- one item, or none
pub one_at_most : (t : Bool) (i : Item) → length (cond t (i ∷ []) []) ≤ 1
one_at_most true i = omega arith
one_at_most false i = omega arith

-- with no sight all strokes are drawn, those of one list and then those of another
all_drawn : (ss : List Stroke) → upto 0 ss ≡ along ss
all_drawn ss = missed ss 0 (unseen ss)

along_append : (ss ts : List Stroke) → along (ss ++ ts) ≡ along ss ++ along ts
along_append [] ts = refl
along_append (s ∷ ss) ts = ap (λ (is : List Item). s.item ∷ is) (along_append ss ts)

drawn_append : (ss ts : List Stroke) → upto 0 (ss ++ ts) ≡ upto 0 ss ++ upto 0 ts
drawn_append ss ts = rw (all_drawn (ss ++ ts), all_drawn ss, all_drawn ts) (along_append ss ts)

-- a code draws its character, then its cursor
one_stroke : (t : Bool) (i : Item) (end : Beam) → upto 0 (cond t (stroke i end ∷ []) []) ≡ cond t (i ∷ []) []
one_stroke true i end = all_drawn (stroke i end ∷ [])
one_stroke false i end = all_drawn []

module _ (size : CharacterSize) (code : ℕ) (marked : Bool) (beam : Beam) (at : ℕ) where
  pub code_drawn : upto 0 (code_strokes size code marked beam at)
      ≡ cond (draws code) (character_at size code beam at ∷ []) [] ++ cond (has_cursor marked code) (cursor_at size code beam at ∷ []) []
  unfolding code_strokes
  code_drawn =
      let end = after_code size code beam in
      let c = character_at size code beam at in
      let u = cursor_at size code beam at in
      drawn_append (cond (draws code) (stroke c end ∷ []) []) (cond (has_cursor marked code) (stroke u end ∷ []) [])
      ∙ rw (one_stroke (draws code) c end, one_stroke (has_cursor marked code) u end) refl

  pub code_short : length (upto 0 (code_strokes size code marked beam at)) ≤ 2
  code_short =
      rw (code_drawn, length-append)
      (omega (arith, one_at_most (draws code) (character_at size code beam at), one_at_most (has_cursor marked code) (cursor_at size code beam at)))

-- two codes
pub codes_drawn : (size : CharacterSize) (a b : ℕ) (c0 c1 : Bool) (beam : Beam) (at next : ℕ)
    → upto 0 (codes_strokes size a b c0 c1 beam at next) ≡ upto 0 (code_strokes size a c0 beam at) ++ upto 0 (code_strokes size b c1 (after_code size a beam) next)
unfolding codes_strokes
codes_drawn size a b c0 c1 beam at next = drawn_append (code_strokes size a c0 beam at) (code_strokes size b c1 (after_code size a beam) next)

-- coordinates or increments draw a point or a vector, or nothing where they are blanked
pub trace_drawn : (blanked vector : Bool) (from to : Beam) (off : Bool) (at : ℕ)
    → upto 0 (trace_strokes (trace_by blanked (cond vector trace.Vector trace.Point)) from to off at) ≡ cond (not blanked) (trace_item vector from to off at ∷ []) []
trace_drawn true vector from to off at = all_drawn []
trace_drawn false true from to off at = all_drawn (stroke (vector_at from to off at) to ∷ [])
trace_drawn false false from to off at = all_drawn (stroke (point_at to off at) to ∷ [])

-- an absolute coordinate leaves the screen never
off_led : (places : Bool) (a b c d : ℕ) (beam : Beam) → off_of (cond places Absolute (Increment (led_to places a b c d beam).off)) ≡ (led_to places a b c d beam).off
off_led true a b c d beam = refl
off_led false a b c d beam = refl

-- A STRETCH AS FAR AS IT IS LISTED: i steps from the state s, to x; the list holds n items
pub record AheadOn (b : Buffer) (sights : List ℕ) (s : State) (held : ℕ) (out : List ℕ) (i : ℕ) (x : State) (n : ℕ) (out' : List ℕ) : Type 0 where
  -- the steps go on over plain data
  pub covered : Covered b.words sights s i x
  -- what they draw is listed
  pub holds : listing (length out) held (items_run b (take i sights) s) ≡ Some n
  pub puts : out' ≡ listed out held (items_run b (take i sights) s)

module _ (b : Buffer) (sights : List ℕ) (s : State) (held : ℕ) (out : List ℕ) where
  pub on_none : AheadOn b sights s held out 0 s held out
  unfolding items_run
  on_none =
      record {
        covered = covered_none b.words sights s;
        holds = none_listing (length out) held [] refl;
        puts = sym (none_listed out held [] refl);
      }

  module _ (i : ℕ) (x : State) (n : ℕ) (out' : List ℕ) (o : AheadOn b sights s held out i x n out') where
    pub on_done : (r : AheadListed) → r.steps ≡ i → r.held ≡ n → ListsAhead b sights s held out r out'
    on_done r e f =
        rw (e, f) (record { behind = x; gone = o.covered.gone; holds = o.holds; puts = o.puts })

    pub on_long : length out' ≡ length out
    on_long = ap length o.puts ∙ length_listed out held (items_run b (take i sights) s)

    -- a list that is full stays as it was
    pub on_full : (is : List Item) (out'' : List ℕ) → listing (length out') n is ≡ None → out'' ≡ listed out' n is → AheadOn b sights s held out i x n out''
    on_full is out'' e f = record { covered = o.covered; holds = o.holds; puts = f ∙ full_listed out' n is e ∙ o.puts }

    pub on_more : i < length sights → (y : State) → Covered b.words sights s (i + 1) y → (m : ℕ) (out'' : List ℕ)
        → listing (length out') n (items_drawn b x (get_or sights i 0)) ≡ Some m → out'' ≡ listed out' n (items_drawn b x (get_or sights i 0))
        → AheadOn b sights s held out (i + 1) y m out''
    on_more h y c m out'' e f =
        let all = items_more b.words sights s i x o.covered.gone h b refl in
        let on = listed_on out out' out'' held n m (items_run b (take i sights) s) (items_drawn b x (get_or sights i 0)) o.holds o.puts e f in
        record {
          covered = c;
          holds = ap (λ (is : List Item). listing (length out) held is) all ∙ on.0;
          puts = on.1 ∙ sym (ap (λ (is : List Item). listed out held is) all);
        }

-- ONE STEP MORE, over plain data that nothing is seen of
module _ (words : List ℕ) (k : Cursor) (sights : List ℕ) (s : State) (held : ℕ) (out : List ℕ) (i : ℕ) (x : State) (n : ℕ) (out' : List ℕ) where
  abbrev byte : ℕ → ℕ
  byte j = data_of (get_or words (x.address + j) 0)

  abbrev first : ℕ
  first = data_of (get_or words x.address 0)

  module _ (o : AheadOn (buffer words k) sights s held out i x n out') (h : i < length sights) (near : x.address < clear_below s.setup.size (length words))
      (p : plain_data (placing s.mode) (get_or words x.address 0) (get_or words (x.address + 1) 0) (get_or words (x.address + 2) 0) (get_or words (x.address + 3) 0) ≡ true)
      (z : seen_of s.pen (get_or sights i 0) ≡ 0)
    where
      abbrev motion_here : Motion
      motion_here = data_motion s.mode first (byte 1) (byte 2) (byte 3) x.beam

      -- where coordinates or increments take the beam
      abbrev led : Shift
      led = led_to (placing s.mode) first (byte 1) (byte 2) (byte 3) x.beam

      drawn_here : items_drawn (buffer words k) x (get_or sights i 0)
          ≡ upto 0 (strokes_of motion_here x.beam (cursor_of (get_or words x.address 0)) (cursor_of (get_or words (x.address + 1) 0)) s.setup.size x.address)
      drawn_here =
          ap (λ (y : State). items_drawn (buffer words k) y (get_or sights i 0)) o.covered.same
          ∙ plain_draws words (beamed s x.address x.beam) (omega arith) p (get_or sights i 0) (buffer words k) refl
          ∙ ap (λ (g : ℕ). upto g (strokes_of motion_here x.beam (cursor_of (get_or words x.address 0)) (cursor_of (get_or words (x.address + 1) 0)) s.setup.size x.address)) z

      -- by the motion of the data: the items that are drawn are listed, and the beam is where they leave it
      step_on : (m : Motion) → motion_here ≡ m → (is : List Item)
          → upto 0 (strokes_of m x.beam (cursor_of (get_or words x.address 0)) (cursor_of (get_or words (x.address + 1) 0)) s.setup.size x.address) ≡ is
          → (held' : ℕ) (out'' : List ℕ) → listing (length out') n is ≡ Some held' → out'' ≡ listed out' n is
          → AheadOn (buffer words k) sights s held out (i + 1) (beamed x (x.address + span_of (placing s.mode)) (beam_after m x.beam)) held' out''
      step_on m e is d held' out'' f g =
          let drawn : items_drawn (buffer words k) x (get_or sights i 0) ≡ is =
          drawn_here
          ∙ ap (λ (q : Motion). upto 0 (strokes_of q x.beam (cursor_of (get_or words x.address 0)) (cursor_of (get_or words (x.address + 1) 0)) s.setup.size x.address)) e
          ∙ d in
          let c = covered_moved words sights s i h x o.covered near p z in
          on_more (buffer words k) sights s held out i x n out' o h (beamed x (x.address + span_of (placing s.mode)) (beam_after m x.beam))
          (subst (λ (q : Motion). Covered words sights s (i + 1) (beamed x (x.address + span_of (placing s.mode)) (beam_after q x.beam))) e c)
          held' out'' (rw drawn f) (rw drawn g)

      -- coordinates or increments
      pub on_trace : (vector : Bool) → Traces s.mode vector → (held' : ℕ) (out'' : List ℕ)
          → listing (length out') n (cond (not (blanked_of (placing s.mode) first (byte 1))) (trace_item vector x.beam led.to led.off x.address ∷ []) []) ≡ Some held'
          → out'' ≡ listed out' n (cond (not (blanked_of (placing s.mode) first (byte 1))) (trace_item vector x.beam led.to led.off x.address ∷ []) [])
          → AheadOn (buffer words k) sights s held out (i + 1) (beamed x (x.address + span_of (placing s.mode)) led.to) held' out''
      unfolding strokes_of beam_after
      on_trace vector traces held' out'' f g =
          let blanked = blanked_of (placing s.mode) first (byte 1) in
          step_on (To (cond (placing s.mode) Absolute (Increment led.off)) (trace_by blanked (cond vector trace.Vector trace.Point)) led.to)
          (traces first (byte 1) (byte 2) (byte 3) x.beam) _
          (rw (here s.setup.size x.address (omega arith), off_led (placing s.mode) first (byte 1) (byte 2) (byte 3) x.beam) (trace_drawn blanked vector x.beam led.to led.off x.address))
          held' out'' f g

      -- codes
      pub on_codes : (letters : CharacterSize) → Writes s.mode letters → (held' : ℕ) (out'' : List ℕ)
          → listing (length out') n (upto 0 (codes_strokes letters first (byte 1) (cursor_of (get_or words x.address 0)) (cursor_of (get_or words (x.address + 1) 0)) x.beam x.address (x.address + 1))) ≡ Some held'
          → out'' ≡ listed out' n (upto 0 (codes_strokes letters first (byte 1) (cursor_of (get_or words x.address 0)) (cursor_of (get_or words (x.address + 1) 0)) x.beam x.address (x.address + 1)))
          → AheadOn (buffer words k) sights s held out (i + 1) (beamed x (x.address + 2) (after_code letters (byte 1) (after_code letters first x.beam))) held' out''
      unfolding strokes_of beam_after
      on_codes letters w held' out'' f g =
          let on =
          step_on (Codes letters first (byte 1)) (w.codes first (byte 1) (byte 2) (byte 3) x.beam) _
          (rw (ahead_same s.setup.size x.address 1 (omega arith), here s.setup.size x.address (omega arith)) refl) held' out'' f g in
          rw w.two at on

-- which modes have coordinates or increments, and which have codes
pub points_trace : Traces mode.Point false
unfolding four_of
points_trace a b c d beam = refl

pub vectors_trace : Traces mode.Vector true
unfolding four_of
vectors_trace a b c d beam = refl

pub steps_point : Traces mode.IncrementalPoint false
unfolding two_of shifted
steps_point a b c d beam = refl

pub steps_trace : Traces mode.IncrementalVector true
unfolding two_of shifted
steps_trace a b c d beam = refl

pub basic_writes : Writes mode.Basic Basic
unfolding two_of
basic_writes = record { codes = λ a b c d beam. refl; two = refl }

pub large_writes : Writes mode.Large Large
unfolding two_of
large_writes = record { codes = λ a b c d beam. refl; two = refl }
