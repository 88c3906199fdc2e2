-- An event that the promise outlasts keeps a unit safe; and which events it outlasts. Assumes nothing.
use Rattle.std.specs.Prelude.{Err, Ok, Result}
use Prim.Native.Nat.{ℕ, ◌≤◌}
use native.Mathlib.Omega.{arith}
use mathlib.Core.Path.{◌≡◌, refl, sym, ap, ◌∙◌}
use mathlib.Core.Logic.{◌≢◌}
use mathlib.Core.Bool.{Bool, true, false, cond, false≢true}
use mathlib.Core.List.{List, [], ◌∷◌}
use lib.Dec.{eqb}
use lib.ListN.{length, get_or}
use borrow.Author.Tests.{ne_eqb}
use Rattle.ground_location.specs.Location.{Unaltered}
use Rattle.ground_setup.specs.Setup.{size_of}
use Rattle.ground_setup.specs.declared.Setup.{Setup}
use Rattle.ground_look.specs.Loaded.{Location}
use Rattle.ground_words.proofs.Laws.{either_way}
use Rattle.ground_refusals.specs.declared.Refusal.{Refusal}
use Rattle.unit_cursor.proofs.Alike.{alike_refl, set_alike, cleared_alike}
use Rattle.unit_codes.specs.Codes.{row_of, sent_by}
use Rattle.unit_codes.specs.declared.Command.{Command}
use Rattle.unit_codes.specs.declared.Command.TheVariants as command
use Rattle.unit_codes.specs.declared.CommandRow.{CommandRow}
use Rattle.unit_codes.proofs.Rows.{RowFits, row_fits}
use Rattle.unit_commands.specs.Commands.{CommandValues, CommandEnd, waiting_of, rejected_of, location_of, done_of, allowed, tried_command, command_by, unit_command}
use Rattle.unit_commands.proofs.Laws.{stopped_by}
use Rattle.unit_head.specs.declared.State.{State}
use Rattle.unit_head.specs.declared.Head.{Head}
use Rattle.unit_head.specs.Head.{DisplayUnit, unit, size_in, buffer_of, switched_head, switched_unit}
use Rattle.unit_loading.specs.Loading.{unit_load}
use Rattle.typing_keys.specs.Keys.{unit_key}
use Rattle.theorem_typing.proofs.Typing.{silent_key, head_stays}
use Rattle.theorem_refusals.proofs.Calls.{load_refused_lem, command_refused}
use Rattle.theorem_promise.specs.Promise.{Event, after_event, NotStarted, GoesOn, Outlasts, Undisturbed, Never}
use Rattle.theorem_promise.specs.Outlasting.{SwitchOutlasted, HaltOutlasted, ListOutlasted, LoadOutlasted, KeyOutlasted, Mild, MildOutlasted, RefusedOutlasted, RejectedOutlasted, WaitingOutlasted, StopOutlasted}
use Rattle.theorem_promise.proofs.Steps.{Clear}
use Rattle.theorem_promise.proofs.Advances.{Safe, advance_fine}

-- a location that is not altered carries the byte that it carried
unaltered_location : {w v b : ℕ} → Unaltered w v → Location w b → Location v b
unaltered_location a l = record { written = a.written_kept ∙ l.written; good = a.still_good l.good; byte = a.data_kept ∙ l.byte }

module _ (image : List ℕ) (su : Setup) (start : ℕ) (fits : length image ≤ size_of su.size) (clear : Clear image su start) where
  -- a unit that goes on is as safe as it was
  safe_on : (u u' : DisplayUnit) → GoesOn u u' → Safe image su start clear u → Safe image su start clear u'
  safe_on u u' g safe =
      let on = g.not_started in
      record {
        carries = λ r a h.
            let same : size_of (size_in u) ≡ size_of su.size = ap (λ (x : Setup). size_of x.size) (safe.within.same (on.ran r)) in
            unaltered_location (g.kept a (omega arith)) (safe.carries (on.ran r) a h);
        within =
            record {
              same = λ r. on.setup r ∙ safe.within.same (on.ran r);
              reached = λ r. rw (on.address r, on.mode r) (safe.within.reached (on.ran r));
            };
      }

  event_keeps : (u : DisplayUnit) → Safe image su start clear u → (e : Event) → Undisturbed u e × (Outlasts u e → Safe image su start clear (after_event u e))
  event_keeps u safe (Event.advanced sights) = let f = advance_fine image su start clear u safe sights in (f.0, λ h. f.1)
  event_keeps u safe (Event.switched closed) = (tt, λ g. safe_on u (switched_unit u closed) g safe)
  event_keeps u safe Event.halted = (tt, λ g. safe)
  event_keeps u safe (Event.listed sight held out) = (tt, λ g. safe)
  event_keeps u safe (Event.commanded code bytes room) = (tt, λ g. safe_on u (unit_command u code bytes room).unit g safe)
  event_keeps u safe (Event.keyed number) = (tt, λ g. safe_on u (unit_key u number).unit g safe)
  event_keeps u safe (Event.loaded size dump) = (tt, λ g. safe_on u (unit_load u size dump).unit g safe)

  -- no event stops a safe unit for a fault, up to the first that the promise does not outlast
  pub never : (u : DisplayUnit) → Safe image su start clear u → (es : List Event) → Never u es
  never u safe [] = tt
  never u safe (e ∷ es) = let k = event_keeps u safe e in (k.0, λ h. never (after_event u e) (k.1 h) es)

-- the same state
same_state : (s s' : State) → s' ≡ s → NotStarted s s'
same_state s s' e = record {
  ran = λ r. sym (ap (λ (x : State). x.running) e) ∙ r;
  setup = λ r. ap (λ (x : State). x.setup) e;
  address = λ r. ap (λ (x : State). x.address) e;
  mode = λ r. ap (λ (x : State). x.mode) e;
}

-- a state that stands
stands : (s s' : State) → s'.running ≡ false → NotStarted s s'
stands s s' e =
    let no : s'.running ≡ true → ⊥ = λ r. false≢true (sym e ∙ r) in
    record { ran = λ r. absurd (no r); setup = λ r. absurd (no r); address = λ r. absurd (no r); mode = λ r. absurd (no r) }

-- the commands but Write Buffer and Set Buffer Address and Start
abbrev Gentle : Command → Type 0
Gentle command.TestIo = Unit {0}
Gentle command.WriteBuffer = ⊥
Gentle command.ReadBuffer = Unit {0}
Gentle command.NoOperation = Unit {0}
Gentle command.Sense = Unit {0}
Gentle command.ReadCursor = Unit {0}
Gentle command.SetAndStop = Unit {0}
Gentle command.Alarm = Unit {0}
Gentle command.InsertCursor = Unit {0}
Gentle command.ReadXy = Unit {0}
Gentle command.RemoveCursor = Unit {0}
Gentle command.SetAndStart = ⊥
Gentle command.Invalid = Unit {0}

abbrev GentleRow : CommandRow → Type 0
GentleRow row = Gentle row.command

module _ (u : DisplayUnit) where
  -- the same words and state, or the same words and a state that stands
  head_on : (h : Head) → h.state ≡ u.head.state → GoesOn u (unit u.words h)
  head_on h e = record { not_started = same_state u.head.state h.state e; kept = λ k l. (alike_refl (get_or u.words k 0)).unaltered }

  stands_on : (h : Head) → h.state.running ≡ false → GoesOn u (unit u.words h)
  stands_on h e = record { not_started = stands u.head.state h.state e; kept = λ k l. (alike_refl (get_or u.words k 0)).unaltered }

  same_on : (u' : DisplayUnit) → u' ≡ u → GoesOn u u'
  same_on u' e = rw e (head_on u.head refl)

  module _ (bytes room : List ℕ) where
    abbrev On : CommandEnd → Type 0
    On o = GoesOn u o.unit

    gentle_on : (row : CommandRow) (k : Command) → RowFits row k → allowed row.running u.head.state.running ≡ true → Gentle k → On (done_of u k bytes room)
    gentle_on row command.TestIo f a g = head_on _ refl
    gentle_on row command.WriteBuffer f a g = absurd g
    gentle_on row command.ReadBuffer f a g = stands_on _ (stopped_by row.running u.head.state.running f a)
    gentle_on row command.NoOperation f a g = head_on _ refl
    gentle_on row command.Sense f a g = head_on _ refl
    gentle_on row command.ReadCursor f a g = stands_on _ (stopped_by row.running u.head.state.running f a)
    gentle_on row command.SetAndStop f a g = stands_on _ refl
    gentle_on row command.Alarm f a g = head_on _ refl
    gentle_on row command.InsertCursor f a g = record {
      not_started = same_state u.head.state u.head.state refl;
      kept = λ k l. (set_alike (location_of u.head.state) (buffer_of u) k).unaltered;
    }
    gentle_on row command.ReadXy f a g = head_on _ refl
    gentle_on row command.RemoveCursor f a g = record {
      not_started = same_state u.head.state u.head.state refl;
      kept = λ k l. (cleared_alike (buffer_of u) k (location_of u.head.state)).unaltered;
    }
    gentle_on row command.SetAndStart f a g = absurd g
    gentle_on row command.Invalid f a g = head_on _ refl

    waiting_on : (k : Command) → On (waiting_of u k room)
    waiting_on k = head_on _ refl

    -- a command that is tried, where what is known of its end tells that it was gentle if it was done
    module _ (row : CommandRow) (fits : RowFits row row.command) (Q : CommandEnd → Type 0) (gentle : Q (done_of u row.command bytes room) → Gentle row.command) where
      allowed_on : (t : Bool) → allowed row.running u.head.state.running ≡ t → Q (cond t (done_of u row.command bytes room) (rejected_of u room)) → On (cond t (done_of u row.command bytes room) (rejected_of u room))
      allowed_on true a q = gentle_on row row.command fits a (gentle q)
      allowed_on false a q = head_on _ refl

      status_on : (t : Bool) → Q (cond t (cond (allowed row.running u.head.state.running) (done_of u row.command bytes room) (rejected_of u room)) (waiting_of u row.command room))
          → On (cond t (cond (allowed row.running u.head.state.running) (done_of u row.command bytes room) (rejected_of u room)) (waiting_of u row.command room))
      status_on true q = allowed_on (allowed row.running u.head.state.running) refl q
      status_on false q = waiting_on row.command

      command_on : (fit : Result (Unit {0}) Refusal) → Q (command_by u row bytes room fit) → On (command_by u row bytes room fit)
      unfolding tried_command
      command_on (Err r) q = head_on u.head refl
      command_on (Ok tt) q = status_on (eqb u.head.status 0) q

-- a command whose end tells that it was gentle if it was done
pub command_told_lem : (u : DisplayUnit) (code : ℕ) (bytes room : List ℕ) (Q : CommandEnd → Type 0) → (Q (done_of u (row_of code).command bytes room) → Gentle (row_of code).command)
    → Q (unit_command u code bytes room) → GoesOn u (unit_command u code bytes room).unit
unfolding unit_command
command_told_lem u code bytes room Q gentle q =
    command_on u bytes room (row_of code) (row_fits code) Q gentle (sent_by (size_in u) (row_of code).takes bytes) q

mild_gentle : (code : ℕ) → Mild code → Gentle (row_of code).command
unfolding row_of
mild_gentle code m =
    simp (ne_eqb code 0x01 m.no_write, ne_eqb code 0x27 m.no_start)
    (either_way GentleRow (eqb code 0x00) tt
    (either_way GentleRow (eqb code 0x02) tt
    (either_way GentleRow (eqb code 0x03) tt
    (either_way GentleRow (eqb code 0x04) tt
    (either_way GentleRow (eqb code 0x06) tt
    (either_way GentleRow (eqb code 0x07) tt
    (either_way GentleRow (eqb code 0x0B) tt
    (either_way GentleRow (eqb code 0x0F) tt (either_way GentleRow (eqb code 0x12) tt (either_way GentleRow (eqb code 0x1F) tt tt))))))))))

pub switch_outlasted : SwitchOutlasted
unfolding switched_head
switch_outlasted u closed = record {
  not_started = record { ran = λ r. r; setup = λ r. refl; address = λ r. refl; mode = λ r. refl };
  kept = λ k l. (alike_refl (get_or u.words k 0)).unaltered;
}

pub list_outlasted : ListOutlasted
list_outlasted u sight held out = head_on u u.head refl

pub halt_outlasted : HaltOutlasted
halt_outlasted u = head_on u u.head refl

pub load_outlasted : LoadOutlasted
load_outlasted u size n dump e = same_on u (unit_load u size dump).unit (load_refused_lem u size dump n e)

pub key_outlasted : KeyOutlasted
key_outlasted u number silent = record {
  not_started = same_state u.head.state (unit_key u number).unit.head.state (head_stays u number).state;
  kept = λ k l. silent_key u number silent k;
}

pub mild_outlasted : MildOutlasted
mild_outlasted u code bytes room m = command_told_lem u code bytes room (λ o. Unit {0}) (λ q. mild_gentle code m) tt

pub stop_outlasted : StopOutlasted
unfolding row_of
stop_outlasted u bytes room = command_told_lem u 0x07 bytes room (λ o. Unit {0}) (λ q. tt) tt

pub refused_outlasted : RefusedOutlasted
refused_outlasted u code n bytes room e = same_on u (unit_command u code bytes room).unit (command_refused u code bytes room n e).unit

-- no command that is done answers Unit Check alone, Write Buffer and Set Buffer Address and Start least of all
rejected_gentle : (u : DisplayUnit) (k : Command) (bytes room : List ℕ) → (done_of u k bytes room).answer ≡ CommandValues.ended 0x02 0 → Gentle k
rejected_gentle u command.TestIo bytes room e = tt
rejected_gentle u command.WriteBuffer bytes room e = let z : ◌≡◌ {A = ℕ} 12 2 = cc in absurd (omega arith)
rejected_gentle u command.ReadBuffer bytes room e = tt
rejected_gentle u command.NoOperation bytes room e = tt
rejected_gentle u command.Sense bytes room e = tt
rejected_gentle u command.ReadCursor bytes room e = tt
rejected_gentle u command.SetAndStop bytes room e = tt
rejected_gentle u command.Alarm bytes room e = tt
rejected_gentle u command.InsertCursor bytes room e = tt
rejected_gentle u command.ReadXy bytes room e = tt
rejected_gentle u command.RemoveCursor bytes room e = tt
rejected_gentle u command.SetAndStart bytes room e = let z : ◌≡◌ {A = ℕ} 12 2 = cc in absurd (omega arith)
rejected_gentle u command.Invalid bytes room e = tt

pub rejected_outlasted : RejectedOutlasted
rejected_outlasted u code bytes room e =
    command_told_lem u code bytes room (λ (o : CommandEnd). o.answer ≡ CommandValues.ended 0x02 0) (rejected_gentle u (row_of code).command bytes room) e

waiting_by : (u : DisplayUnit) (row : CommandRow) (bytes room : List ℕ) → u.head.status ≢ 0 → (fit : Result (Unit {0}) Refusal) → GoesOn u (command_by u row bytes room fit).unit
unfolding tried_command
waiting_by u row bytes room n (Err r) = head_on u u.head refl
waiting_by u row bytes room n (Ok tt) = simp (ne_eqb u.head.status 0 n) (waiting_on u bytes room row.command)

pub waiting_outlasted : WaitingOutlasted
unfolding unit_command
waiting_outlasted u code bytes room n = waiting_by u (row_of code) bytes room n (sent_by (size_in u) (row_of code).takes bytes)
