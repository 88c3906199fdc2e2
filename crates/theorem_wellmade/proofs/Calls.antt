-- Demand 1 shown: every call of a well-made unit gives a well-made unit. Assumes nothing.
use Rattle.std.specs.Prelude.{Err, Ok, Result}
use Prim.Native.Nat.{ℕ, ◌%◌, ◌<◌}
use native.Mathlib.Omega.{arith}
use mathlib.Core.Path.{◌≡◌, refl, sym, subst, ◌∙◌}
use mathlib.Core.Bool.{Bool, true, false, cond, false≢true}
use mathlib.Core.List.{List}
use lib.Dec.{eqb, ltb}
use lib.ListN.{length, replicate}
use borrow.Author.Tests.{eqb-true, eqb-false, ltb-true}
use Rattle.ground_location.specs.Location.{fresh_word}
use Rattle.ground_words.proofs.Laws.{either_way}
use Rattle.ground_setup.specs.Setup.{size_of, wrap_of, sized_of}
use Rattle.ground_setup.specs.declared.Size.{Size}
use Rattle.ground_setup.specs.declared.Setup.{Setup}
use Rattle.ground_setup.proofs.Laws.{positive, below}
use Rattle.ground_orders.specs.declared.Mode.{Mode}
use Rattle.ground_refusals.specs.declared.Refusal.{Refusal}
use Rattle.ground_refusals.specs.declared.Refusal.TheVariants.{UnusedBit, WrongCount, OddStart, FarStart}
use Rattle.unit_cursor.specs.Cursor.{Buffer, cursors, any_set, set_here, cleared_here}
use Rattle.unit_head.specs.declared.Sense.{Sense}
use Rattle.unit_head.specs.Head.{DisplayUnit, unit, size_in, buffer_of, fresh_head, switched_head}
use Rattle.unit_loading.specs.Loading.{LoadValues, all_proper, dump_words, load_end, fresh_loaded, load_refused, loaded_by, unit_load}
use Rattle.unit_codes.specs.Codes.{address_in, row_of, sent_by}
use Rattle.unit_codes.specs.declared.Command.{Command}
use Rattle.unit_codes.specs.declared.Command.TheVariants as command
use Rattle.unit_codes.specs.declared.CommandRow.{CommandRow}
use Rattle.unit_codes.specs.declared.Takes.{Takes}
use Rattle.unit_codes.specs.declared.Takes.TheVariants.{Address, Start}
use Rattle.unit_codes.proofs.Rows.{RowFits, row_fits}
use Rattle.unit_buffer.specs.Buffer.{bytes_written}
use Rattle.unit_commands.specs.Commands.{CommandEnd, waiting_of, reset, read_by, done_of, allowed, rejected_of, tried_command, command_by, unit_command}
use Rattle.unit_commands.proofs.Laws.{stopped_by}
use Rattle.unit_advance.specs.declared.End.TheVariants as end
use Rattle.unit_advance.specs.declared.Progress.{Progress}
use Rattle.unit_advance.specs.Advance.{progress, progress_over, all_sights, AdvanceEnd, advanced_by, gone_over, unit_advance}
use Rattle.theorem_roundtrips.specs.RoundTrips.{Bytes}
use Rattle.typing_keys.specs.Keys.{KeyEnd}
use Rattle.theorem_typing.proofs.Each.{each}
use Rattle.theorem_typing.proofs.Typing.{key_typeable}
use Rattle.theorem_wellmade.specs.Calls.{Houses, FreshWell, LoadWell, SwitchWell, CommandWell, AdvanceWell, KeyWell}
use Rattle.theorem_wellmade.specs.WellMade.{BufferMade, WellMade}
use Rattle.theorem_wellmade.proofs.Stores.{behind_inside, read_inside, written_made, set_made, cleared_made, moved_made, typed_made, fresh_made, dump_made}
use Rattle.theorem_wellmade.proofs.Pens.{fresh_pen, switched_made}
use Rattle.theorem_wellmade.proofs.Steps.{AdvanceMade, advance_made}

-- a fresh head over a well-made buffer
fresh_with : (n : ℕ) (s : Size) (b : Buffer) → BufferMade n s b → WellMade n (unit b.words (fresh_head s b.cursor))
fresh_with n s b m = record {
  buffer = m;
  state = record { address = positive s; even = λ r. refl; beam = record { x = omega arith; y = omega arith }; pen = fresh_pen };
  clear = λ r. refl;
}

pub fresh_well : FreshWell
fresh_well n houses s = fresh_with n s (record { words = replicate n fresh_word; cursor = cursors 0 }) (fresh_made n s (houses s))

-- an address that fits is one of the buffer's
near_inside : (count near : Bool) (q o : Refusal) → ◌≡◌ {A = Result (Unit {0}) Refusal} (cond count (cond near (Ok tt) (Err q)) (Err o)) (Ok tt) → near ≡ true
near_inside true true q o e = refl
near_inside true false q o e = let z : ◌≡◌ {A = ℕ} 0 1 = cc in absurd (omega arith)
near_inside false near q o e = let z : ◌≡◌ {A = ℕ} 0 1 = cc in absurd (omega arith)

-- and one to start at is even
start_inside : (count odd near : Bool) (r q o : Refusal) → ◌≡◌ {A = Result (Unit {0}) Refusal} (cond count (cond odd (Err r) (cond near (Ok tt) (Err q))) (Err o)) (Ok tt) → (odd ≡ false) × (near ≡ true)
start_inside true true near r q o e = let z : ◌≡◌ {A = ℕ} 0 1 = cc in absurd (omega arith)
start_inside true false near r q o e = (refl, near_inside true near q o e)
start_inside false odd near r q o e = let z : ◌≡◌ {A = ℕ} 0 1 = cc in absurd (omega arith)

module _ (n : ℕ) (u : DisplayUnit) (m : WellMade n u) where
  abbrev s : Size
  s = size_in u

  abbrev b : Buffer
  b = buffer_of u

  module _ (houses : Houses n) where
    loaded_dump : (z : Size) (dump : List ℕ) (l : ℕ) → l ≡ n → length dump ≡ size_of z → all_proper dump ≡ true → WellMade n (fresh_loaded l z dump)
    loaded_dump z dump l e f p =
        rw e (fresh_with n z (record { words = dump_words n dump; cursor = (fresh_loaded n z dump).head.cursor }) (dump_made n z dump (houses z) f p))

    dump_by : (z : Size) (dump : List ℕ) (t p : Bool) → eqb (length dump) (size_of z) ≡ t → all_proper dump ≡ p → WellMade n (cond t (cond p (load_end (fresh_loaded (length u.words) z dump) LoadValues.loaded) (load_refused u UnusedBit)) (load_refused u WrongCount)).unit
    dump_by z dump true true e f = loaded_dump z dump (length u.words) m.buffer.whole (eqb-true (length dump) (size_of z) e) f
    dump_by z dump true false e f = m
    dump_by z dump false p e f = m

    loaded_by_lem : (dump : List ℕ) (z : Result Size Refusal) → WellMade n (loaded_by u dump z).unit
    loaded_by_lem dump (Err r) = m
    loaded_by_lem dump (Ok z) = dump_by z dump (eqb (length dump) (size_of z)) (all_proper dump) refl refl

  -- where advancing has come to
  after_well : (p : Progress) → AdvanceMade u.head.state p.state p.end → (p.state.running ≡ true → u.head.state.running ≡ true)
      → WellMade n (advanced_by u p).unit
  after_well p h ran = record {
    buffer = subst (λ (x : Setup). BufferMade n x.size b) (sym h.onto.same) m.buffer;
    state = h.onto.made;
    clear = λ r. h.quiet r u.head.status ∙ m.clear (ran r);
  }

  over_well : (sights : List ℕ) → WellMade n (gone_over u sights).unit
  unfolding gone_over
  over_well sights = by u.head.state.running refl
    where
      by : (t : Bool) → u.head.state.running ≡ t
          → WellMade n (advanced_by u (cond t (progress_over u.words sights u.head.state) (progress u.head.state 0 end.NotRunning))).unit
      by true r = after_well (progress_over u.words sights u.head.state) (advance_made u.words sights u.head.state r m.state) (λ _. r)
      by false r =
          after_well (progress u.head.state 0 end.NotRunning)
          (record { onto = record { same = refl; made = m.state }; quiet = λ _ status. refl }) (λ e. e)

  abbrev Leaves : CommandEnd → Type 0
  Leaves o = WellMade n o.unit

  -- the same buffer and state, whatever the sense is
  kept : {sense : Sense} → WellMade n (unit u.words (record { state = u.head.state; status = u.head.status; sense = sense; cursor = u.head.cursor }))
  kept = record { buffer = m.buffer; state = m.state; clear = m.clear }

  -- a unit that stands, of the same setup, beam and pen, with another buffer
  stood : {b' : Buffer} {a : ℕ} {mode : Mode} {running : Bool} {status : ℕ} {sense : Sense} → running ≡ false → BufferMade n s b' → a < size_of s
      → WellMade n (unit b'.words (record { state = record { setup = u.head.state.setup; address = a; mode = mode; running = running; beam = u.head.state.beam; pen = u.head.state.pen }; status = status; sense = sense; cursor = b'.cursor }))
  stood stands w h = record {
    buffer = w;
    state = record { address = h; even = λ r. absurd (false≢true (sym stands ∙ r)); beam = m.state.beam; pen = m.state.pen };
    clear = λ r. absurd (false≢true (sym stands ∙ r));
  }

  -- the same state and status with another buffer
  keyed : {b' : Buffer} {sense : Sense} → BufferMade n s b'
      → WellMade n (unit b'.words (record { state = u.head.state; status = u.head.status; sense = sense; cursor = b'.cursor }))
  keyed w = record { buffer = w; state = m.state; clear = m.clear }

  module _ (bytes room : List ℕ) (small : Bytes bytes) (none : u.head.status ≡ 0) where
    abbrev at : ℕ
    at = wrap_of s u.head.state.address

    inside : at < size_of s
    inside = below s u.head.state.address

    read_well : (seek : Bool) → u.head.state.running ≡ false → Leaves (read_by (reset u) seek room)
    read_well seek r = stood r m.buffer (read_inside s b seek at 0 room inside)

    -- each command, where its row is one of the table's and what was sent fits
    done_well : (row : CommandRow) (k : Command) → RowFits row k → sent_by s row.takes bytes ≡ Ok tt
        → allowed row.running u.head.state.running ≡ true → Leaves (done_of u k bytes room)
    done_well row command.TestIo f e a = m
    done_well row command.WriteBuffer f e a =
        stood {b' = (bytes_written s u.head.state.address bytes b).buffer} (stopped_by row.running u.head.state.running f a)
        (written_made n s at bytes b small inside m.buffer) (behind_inside s at bytes b inside)
    done_well row command.ReadBuffer f e a = read_well false (stopped_by row.running u.head.state.running f a)
    done_well row command.NoOperation f e a = m
    done_well row command.Sense f e a = kept
    done_well row command.ReadCursor f e a = read_well (any_set u.head.cursor) (stopped_by row.running u.head.state.running f a)
    done_well row command.SetAndStop f e a =
        let fit : sent_by s Address bytes ≡ Ok tt = subst (λ (t : Takes). sent_by s t bytes ≡ Ok tt) f e in
        stood refl m.buffer
        (ltb-true (address_in bytes) (size_of s) (near_inside (eqb (length bytes) 2) (ltb (address_in bytes) (size_of s)) FarStart WrongCount fit))
    done_well row command.Alarm f e a = kept
    done_well row command.InsertCursor f e a = keyed {b' = set_here at b} (set_made n s at b inside m.buffer)
    done_well row command.ReadXy f e a = kept
    done_well row command.RemoveCursor f e a = keyed {b' = cleared_here at b} (cleared_made n s at b inside m.buffer)
    done_well row command.SetAndStart f e a =
        let fit : sent_by s Start bytes ≡ Ok tt = subst (λ (t : Takes). sent_by s t bytes ≡ Ok tt) f e in
        let told = start_inside (eqb (length bytes) 2) (eqb (address_in bytes % 2) 1) (ltb (address_in bytes) (size_of s)) OddStart FarStart WrongCount fit in
        let odd : address_in bytes % 2 ≡ 1 → ⊥ = eqb-false (address_in bytes % 2) 1 told.0 in
        record {
          buffer = m.buffer;
          state = record { address = ltb-true (address_in bytes) (size_of s) told.1; even = λ r. omega arith; beam = m.state.beam; pen = m.state.pen };
          clear = λ r. none;
        }
    done_well row command.Invalid f e a = kept

    allowed_well : (row : CommandRow) → RowFits row row.command → sent_by s row.takes bytes ≡ Ok tt → (t : Bool) → allowed row.running u.head.state.running ≡ t
        → Leaves (cond t (done_of u row.command bytes room) (rejected_of u room))
    allowed_well row f e true a = done_well row row.command f e a
    allowed_well row f e false a = kept

  module _ (bytes room : List ℕ) (small : Bytes bytes) where
    status_well : (row : CommandRow) → RowFits row row.command → sent_by s row.takes bytes ≡ Ok tt → (t : Bool) → eqb u.head.status 0 ≡ t
        → Leaves (cond t (cond (allowed row.running u.head.state.running) (done_of u row.command bytes room) (rejected_of u room)) (waiting_of u row.command room))
    status_well row f e true z =
        allowed_well bytes room small (eqb-true u.head.status 0 z) row f e (allowed row.running u.head.state.running) refl
    status_well row f e false z = record { buffer = m.buffer; state = m.state; clear = λ r. refl }

    tried_well : (row : CommandRow) → RowFits row row.command → sent_by s row.takes bytes ≡ Ok tt → Leaves (tried_command u row bytes room)
    unfolding tried_command
    tried_well row f e = status_well row f e (eqb u.head.status 0) refl

    command_by_lem : (row : CommandRow) → RowFits row row.command → (fit : Result (Unit {0}) Refusal) → sent_by s row.takes bytes ≡ fit → Leaves (command_by u row bytes room fit)
    command_by_lem row f (Ok tt) e = tried_well row f e
    command_by_lem row f (Err r) e = m

pub load_well : LoadWell
unfolding unit_load
load_well n houses u m size dump = loaded_by_lem n u m houses dump (sized_of size)

pub switch_well : SwitchWell
unfolding switched_head
switch_well n u m closed = record {
  buffer = m.buffer;
  state = record { address = m.state.address; even = m.state.even; beam = m.state.beam; pen = switched_made u.head.state.pen closed m.state.pen };
  clear = m.clear;
}

pub command_well : CommandWell
unfolding unit_command
command_well n u m code bytes room small =
    command_by_lem n u m bytes room small (row_of code) (row_fits code) (sent_by (size_in u) (row_of code).takes bytes) refl

pub advance_well : AdvanceWell
unfolding unit_advance
advance_well n u m sights = either_way (λ (r : AdvanceEnd). WellMade n r.unit) (all_sights sights) (over_well n u m sights) m

pub key_well : KeyWell
key_well n u m number =
    each u number (λ (q : KeyEnd). WellMade n q.unit) (λ r. m) m (λ at c. m)
    (λ at to c. keyed n u m (moved_made n (size_in u) at to (buffer_of u) m.buffer))
    (λ at code to h. keyed n u m (typed_made n (size_in u) at code to (buffer_of u) (key_typeable number code h.pressed).byte m.buffer))
