-- Demand 2 shown: what is written comes back, what is read and written back stands. Assumes nothing.
use Rattle.std.specs.Prelude.{Err, Ok}
use Prim.Native.Nat.{ℕ, ◌+◌, ◌*◌, ◌/◌, ◌%◌, ◌≤◌, ◌<◌}
use native.Mathlib.Omega.{arith}
use mathlib.Core.Path.{◌≡◌, refl, sym, ap, subst, ◌∙◌}
use mathlib.Core.Bool.{Bool, true, false, cond}
use mathlib.Core.List.{List, []}
use lib.Dec.{eqb}
use lib.ListN.{length, length-replicate}
use borrow.Author.Tests.{eq-eqb, lt-ltb}
use Rattle.ground_setup.specs.Setup.{size_of, wrap_of}
use Rattle.ground_setup.specs.declared.Size.{Size}
use Rattle.ground_setup.proofs.Laws.{below}
use Rattle.ground_words.proofs.Laws.{both_true}
use Rattle.ground_look.specs.Loaded.{Carries}
use Rattle.unit_buffer.specs.Buffer.{read_from}
use Rattle.unit_buffer.specs.declared.Read.{Read}
use Rattle.unit_head.specs.Head.{DisplayUnit, unit, size_in, buffer_of, fresh_unit}
use Rattle.unit_codes.specs.Codes.{row_of}
use Rattle.unit_codes.specs.declared.CommandRow.{CommandRow}
use Rattle.ground_refusals.specs.declared.Refusal.TheVariants.{FarStart}
use Rattle.unit_commands.specs.Commands.{CommandValues, CommandEnd, done, checked, in_state, reset, stopped_at, written_by, read_by, done_of, allowed, tried_command, command_by, unit_command}
use Rattle.theorem_roundtrips.specs.RoundTrips.{Quiet, address_bytes, addressed, written, read, Gives, ComesBack, data_at, Stands}
use Rattle.theorem_roundtrips.specs.Images.{WrittenImage}
use Rattle.theorem_roundtrips.proofs.Images.{written_over}
use Rattle.theorem_roundtrips.proofs.Buffers.{words_from, written_words, written_length, read_at, good_read, good_written, given_written, written_back}

-- where no status waits a command that is allowed is done
pub tried_is : (u : DisplayUnit) (row : CommandRow) (bytes room : List ℕ) → u.head.status ≡ 0 → allowed row.running u.head.state.running ≡ true
    → tried_command u row bytes room ≡ done_of u row.command bytes room
unfolding tried_command
tried_is u row bytes room clear a =
    both_true (eqb u.head.status 0) (allowed row.running u.head.state.running) _ _ _ (eq-eqb u.head.status 0 clear) a

-- a stopped unit does what it is given
quiet_is : (u : DisplayUnit) (row : CommandRow) (bytes room : List ℕ) → Quiet u → tried_command u row bytes room ≡ done_of u row.command bytes room
quiet_is u row bytes room q = tried_is u row bytes room q.clear (rw q.stopped)

-- a unit stopped at an address
abbrev pub there : DisplayUnit → ℕ → DisplayUnit
there u a = in_state (reset u) (stopped_at u.head.state a)

-- what the three commands come to on such a unit
pub addressed_is : (u : DisplayUnit) (a : ℕ) (lent : List ℕ) → Quiet u → a < size_of (size_in u) → addressed u a lent ≡ there u a
unfolding unit_command row_of
addressed_is u a lent q h =
    let e : a / 0x100 * 0x100 + a % 0x100 ≡ a = omega arith in
    let bytes = address_bytes a in
    ap (λ (t : Bool). (command_by u (row_of 0x07) bytes lent (cond t (Ok tt) (Err FarStart))).unit) (lt-ltb (a / 0x100 * 0x100 + a % 0x100) (size_of (size_in u)) (omega arith))
    ∙ ap (λ (o : CommandEnd). o.unit) (quiet_is u (row_of 0x07) bytes lent q)
    ∙ ap (there u) e

pub written_is : (u : DisplayUnit) (bytes room : List ℕ) → Quiet u → unit_command u 0x01 bytes room ≡ written_by (reset u) bytes room
unfolding unit_command row_of
written_is u bytes room q = quiet_is u (row_of 0x01) bytes room q

pub read_is : (u : DisplayUnit) (room : List ℕ) → Quiet u → unit_command u 0x02 [] room ≡ read_by (reset u) false room
unfolding unit_command row_of
read_is u room q = quiet_is u (row_of 0x02) [] room q

-- the words that a write leaves
written_by_lem : (u : DisplayUnit) (bytes room : List ℕ) → (written_by u bytes room).unit.words ≡ words_from (size_in u) (wrap_of (size_in u) u.head.state.address) bytes u.words
written_by_lem u bytes room = written_words (size_in u) (wrap_of (size_in u) u.head.state.address) bytes (buffer_of u)

-- a fresh unit is quiet
pub fresh_quiet : (n : ℕ) (s : Size) → size_of s ≤ n → Quiet (fresh_unit n s)
fresh_quiet n s large = record { stopped = refl; clear = refl; whole = rw length-replicate large }

-- an image written from address 0 on is carried
pub written_image : WrittenImage
written_image u image room q zero bytes fit =
    subst (λ (ws : List ℕ). Carries ws image)
    (sym (ap (λ (o : CommandEnd). o.unit.words) (written_is u image room q) ∙ written_by_lem (reset u) image room ∙ ap (λ (a : ℕ). words_from (size_in u) (wrap_of (size_in u) a) image u.words) zero))
    (written_over (size_in u) image u.words q.whole bytes fit)

pub there_quiet : (u : DisplayUnit) (a : ℕ) → Quiet u → Quiet (there u a)
there_quiet u a q = record { stopped = refl; clear = q.clear; whole = q.whole }

module _ (u : DisplayUnit) (a : ℕ) (q : Quiet u) (h : a < size_of (size_in u)) where
  -- what a write leaves
  written_there : (bytes lent lent' : List ℕ) → written u a bytes lent lent' ≡ (written_by (there u a) bytes lent').unit
  written_there bytes lent lent' =
      ap (λ (x : DisplayUnit). (unit_command x 0x01 bytes lent').unit) (addressed_is u a lent q h)
      ∙ ap (λ (o : CommandEnd). o.unit) (written_is (there u a) bytes lent' (there_quiet u a q))

  -- what a read leaves
  read_there : (lent room : List ℕ) → read u a lent room ≡ read_by (there u a) false room
  read_there lent room = ap (λ (x : DisplayUnit). unit_command x 0x02 [] room) (addressed_is u a lent q h) ∙ read_is (there u a) room (there_quiet u a q)

-- how a read is answered
abbrev reads : Read → CommandValues
reads r = CommandValues.ended (cond r.good done checked) r.count

-- "up to one buffer of data, written at an address and read from it, comes back", at every address and across the end of the buffer
pub comes_back : ComesBack
comes_back u a bytes room lent₁ lent₂ lent₃ q h small fit e =
    let s = size_in u in
    let at = wrap_of s a in
    let holder = (written_by (there u a) bytes lent₂).unit in
    let holds : holder.words ≡ words_from s at bytes u.words = written_by_lem (there u a) bytes lent₂ in
    let long : length holder.words ≡ length u.words = ap length holds ∙ written_length s at bytes u.words in
    let quiet : Quiet holder = record { stopped = refl; clear = q.clear; whole = omega (arith, q.whole, long) } in
    let good = good_written s at (below s a) u.words q.whole bytes room small fit e in
    let n : 0 + length room ≡ length bytes = omega arith in
    subst (λ (x : DisplayUnit). Gives (read x a lent₃ room) bytes) (sym (written_there u a q h bytes lent₁ lent₂))
    (subst (λ (o : CommandEnd). Gives o bytes) (sym (read_there holder a quiet h lent₃ room))
    (record {
      given = given_written s at (below s a) u.words q.whole bytes room small fit e (buffer_of holder) holds;
      status = ap reads (read_at (buffer_of holder) s at 0 room (below s a) (rw holds good)) ∙ ap (CommandValues.ended 0x0C) n;
    }))

-- a read whose status is 0C met no bad parity
without_check : (good : Bool) (c n : ℕ) → CommandValues.ended (cond good done checked) c ≡ CommandValues.ended 0x0C n → good ≡ true
without_check true c n e = refl
without_check false c n e = let z : ◌≡◌ {A = ℕ} 14 12 = cc in absurd (omega arith)

-- "data read without a check and written back stands as before"
pub stands : Stands
stands u a n room lent₁ lent₂ lent₃ q h e k =
    let s = size_in u in
    let at = wrap_of s a in
    let was = read_by (there u a) false room in
    let ended = read_from (buffer_of u) s false at 0 room in
    let quiet : Quiet was.unit = record { stopped = refl; clear = q.clear; whole = q.whole } in
    let told : reads ended ≡ CommandValues.ended 0x0C n = ap (λ (o : CommandEnd). o.answer) (sym (read_there u a q h lent₁ room)) ∙ e in
    let good = good_read (buffer_of u) s at 0 room (below s a) (without_check ended.good ended.count n told) in
    subst (λ (o : CommandEnd). data_at (written o.unit a o.room lent₂ lent₃) k ≡ data_at u k) (sym (read_there u a q h lent₁ room))
    (ap (λ (x : DisplayUnit). data_at x k) (written_there was.unit a quiet h was.room lent₂ lent₃)
    ∙ ap (λ (ws : List ℕ). data_at (unit ws u.head) k) (written_by_lem (there was.unit a) was.room lent₃)
    ∙ written_back s at (buffer_of u) room (below s a) good k)
