-- Demand 3's two promises: to a device that is loaded with a passed image and started, and to whoever is told a fault. Assumes nothing.
use Rattle.std.specs.Prelude.{Err, Ok}
use Prim.Native.Nat.{ℕ, zero, suc, ◌+◌, ◌*◌, ◌/◌, ◌%◌, ◌<◌, ◌≤◌}
use native.Mathlib.Numerals.{add-one}
use native.Mathlib.Omega.{arith}
use mathlib.Core.Path.{◌≡◌, refl, sym, ap, ◌∙◌, subst}
use mathlib.Core.Bool.{Bool, true, false, cond, not, ◌||◌}
use mathlib.Core.List.{List, [], ◌∷◌, ◌++◌}
use lib.ListN.{length, length-append}
use borrow.Author.Tests.{ne_eqb, lt-ltb}
use Rattle.ground_setup.specs.Setup.{size_of, setup}
use Rattle.ground_setup.specs.declared.Size.{Size}
use Rattle.ground_setup.specs.declared.Setup.{Setup}
use Rattle.ground_setup.proofs.Laws.{same_size, positive}
use Rattle.ground_orders.specs.declared.Mode.TheVariants.{Idle}
use Rattle.ground_look.specs.Loaded.{Carries}
use Rattle.validator_walks.specs.declared.Place.{Place}
use Rattle.validator_walks.specs.Places.{place}
use Rattle.validator_walks.specs.Steps.{Step, Leads, step_of}
use Rattle.validator_walks.specs.Walks.{Reach}
use Rattle.validator_verdict.specs.Verdict.{VerdictValues}
use Rattle.validator_verdict.proofs.Tells.{LookedAt, judged_tells}
use Rattle.unit_codes.specs.Codes.{row_of, near_fit}
use Rattle.ground_refusals.specs.declared.Refusal.TheVariants.{OddStart, FarStart}
use Rattle.unit_commands.specs.Commands.{CommandEnd, in_state, reset, started_at, command_by, unit_command}
use Rattle.unit_head.specs.Head.{DisplayUnit, size_in, fresh_unit}
use Rattle.unit_loading.specs.Loading.{LoadEnd, unit_load}
use Rattle.theorem_roundtrips.specs.RoundTrips.{Bytes, Quiet, address_bytes}
use Rattle.theorem_roundtrips.specs.Images.{dump_of}
use Rattle.theorem_roundtrips.proofs.Images.{dump_image, dump_loaded}
use Rattle.theorem_roundtrips.proofs.RoundTrips.{tried_is, there, addressed_is, there_quiet, written_is, fresh_quiet, written_image}
use Rattle.theorem_promise.specs.Promise.{Passed, LoadedWith, started_there, Event, Never, Promise, PromiseDump, PromiseFresh, PromiseOver}
use Rattle.theorem_promise.specs.Alarm.{Walk, NoFalseAlarm}
use Rattle.theorem_promise.proofs.Steps.{Clear}
use Rattle.theorem_promise.proofs.Advances.{Safe}
use Rattle.theorem_promise.proofs.Events.{never}

or_true : (b : Bool) → (b || true) ≡ true
or_true true = refl
or_true false = refl

-- Set Buffer Address and Start, given to a unit with no status waiting, starts it there
started_is : (u : DisplayUnit) (start : ℕ) (room : List ℕ) → u.head.status ≡ 0 → start % 2 ≡ 0 → start < size_of (size_in u) → started_there u start room ≡ in_state (reset u) (started_at u.head.state start)
unfolding unit_command row_of
started_is u start room waiting even inside =
    let e : start / 0x100 * 0x100 + start % 0x100 ≡ start = omega arith in
    let bytes = address_bytes start in
    let a = start / 0x100 * 0x100 + start % 0x100 in
    ap (λ (t : Bool). (command_by u (row_of 0x27) bytes room (cond t (Err OddStart) (near_fit (size_in u) a))).unit) (ne_eqb (a % 2) 1 (λ o. omega arith))
    ∙ ap (λ (t : Bool). (command_by u (row_of 0x27) bytes room (cond t (Ok tt) (Err FarStart))).unit) (lt-ltb a (size_of (size_in u)) (omega arith))
    ∙ ap (λ (o : CommandEnd). o.unit) (tried_is u (row_of 0x27) bytes room waiting (or_true (not u.head.state.running)))
    ∙ ap (λ (x : ℕ). in_state (reset u) (started_at u.head.state x)) e

module _ (image : List ℕ) (start : ℕ) (u : DisplayUnit) (clear : Clear image u.head.state.setup start) where
  started : Carries u.words image → u.head.status ≡ 0 → start % 2 ≡ 0 → start < size_of (size_in u) → (room : List ℕ)
      → Safe image u.head.state.setup start clear (started_there u start room)
  started carries waiting even inside room =
      subst (Safe image u.head.state.setup start clear) (sym (started_is u start room waiting even inside))
      (record { carries = λ r. carries; within = record { same = λ r. refl; reached = λ r. (zero, refl) } })

-- the walks of a passed image, in the buffer of a unit of that size
module _ (image : List ℕ) (size start : ℕ) (passed : Passed image size start) (u : DisplayUnit) (same : size_of (size_in u) ≡ size) where
  looked : LookedAt image size start (VerdictValues.passed passed.count)
  looked = judged_tells image size start passed.store passed.left (VerdictValues.passed passed.count) tt passed.judged

  own : setup looked.buffer ≡ u.head.state.setup
  own = ap setup (same_size looked.buffer (size_in u) (sym looked.sized ∙ sym same))

  unmet : Clear image u.head.state.setup start
  unmet = subst (λ (x : Setup). Clear image x start) own looked.right.sound

-- "A device of the same size, loaded with a passed image and started there, never stops for a fault, whatever the pen sees, until it is
-- stopped, started anew or its buffer is altered."
pub promise : Promise
promise image size start passed u loaded room es =
    let l = looked image size start passed u loaded.same in
    let clear = unmet image size start passed u loaded.same in
    let here : size_of l.buffer ≡ size_of (size_in u) = sym l.sized ∙ sym loaded.same in
    never image u.head.state.setup start (omega (arith, l.fits)) clear (started_there u start room)
    (started image start u clear loaded.carries loaded.clear l.even (omega (arith, l.inside)) room) es

-- a passed image fits its buffer
fits_in : (image : List ℕ) (s : Size) (start : ℕ) → Passed image (size_of s) start → length image ≤ size_of s
fits_in image s start passed =
    let l = judged_tells image (size_of s) start passed.store passed.left (VerdictValues.passed passed.count) tt passed.judged in
    omega (arith, l.sized, l.fits)

pub promise_dump : PromiseDump
promise_dump image s start bytes passed u large room es =
    let fit = fits_in image s start passed in
    let done = dump_loaded u s image bytes fit in
    promise image (size_of s) start passed (unit_load u (size_of s) (dump_of s image)).unit
    (subst (λ (e : LoadEnd). LoadedWith image (size_of s) e.unit) (sym done)
    (record { same = refl; carries = dump_image (length u.words) s image large bytes fit; clear = refl })) room es

-- a unit that stands at address 0 with no status waiting, and is given Write Buffer
over : (image : List ℕ) (start : ℕ) (u : DisplayUnit) → Quiet u → u.head.state.address ≡ 0 → Bytes image → Passed image (size_of (size_in u)) start → (lent room : List ℕ) (es : List Event)
    → Never (started_there (unit_command u 0x01 image lent).unit start room) es
over image start u q first bytes passed lent room es =
    let done = written_is u image lent q in
    promise image (size_of (size_in u)) start passed (unit_command u 0x01 image lent).unit
    (record {
      same = ap (λ (o : CommandEnd). size_of (size_in o.unit)) done;
      carries = written_image u image lent q first bytes (fits_in image (size_in u) start passed);
      clear = ap (λ (o : CommandEnd). o.unit.head.status) done ∙ q.clear;
    }) room es

pub promise_fresh : PromiseFresh
promise_fresh image s start bytes passed n large lent room es = over image start (fresh_unit n s) (fresh_quiet n s large) refl bytes passed lent room es

pub promise_over : PromiseOver
promise_over image start bytes u q passed lent lent' room es =
    subst (λ (x : DisplayUnit). Never (started_there (unit_command x 0x01 image lent').unit start room) es) (sym (addressed_is u 0 lent q (positive (size_in u))))
    (over image start (there u 0) (there_quiet u 0 q) refl bytes passed lent' room es)

module _ {F : Type 0} (step : Place → Step F Place) where
  -- one step more at a walk's end
  on : (p : Place) (ps : List Place) (q r : Place) → Walk step p ps q → Leads (step q) r → Walk step p (ps ++ r ∷ []) r
  on p [] q r w l = (subst (λ (x : Place). Leads (step x) r) w l, refl)
  on p (x ∷ xs) q r w l = (w.0, on x xs q r w.1 l)

  -- what is reached in k steps is reached by a walk of k places
  walked : (start : Place) (k : ℕ) (q : Place) → Reach step start k q → (ps : List Place) × (length ps ≡ k) × Walk step start ps q
  walked start zero q here = ([], refl, here)
  walked start (suc k) q here =
      let w = walked start k here.0 here.1 in
      (w.0 ++ q ∷ [], length-append w.0 (q ∷ []) ∙ add-one (length w.0) ∙ ap suc w.1, on start w.0 here.0 q w.2 here.2)

-- where the answer is a fault n at a after k, some walk of k steps meets it: the verdict is no false alarm
pub no_false_alarm : NoFalseAlarm
no_false_alarm image size start n a k store left judged =
    let l = judged_tells image size start store left (VerdictValues.fault n a k) tt judged in
    let first = l.right.2 in
    let w = walked (step_of image (setup l.buffer)) (place start Idle) k first.met first.here in
    record { buffer = l.buffer; sized = l.sized; places = w.0; last = first.met; steps = w.1; walk = w.2; at = first.at; fault = l.right.0; number = l.right.1; faulty = first.faulty }
