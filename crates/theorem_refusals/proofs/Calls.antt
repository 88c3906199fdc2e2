-- Demand 1 shown for the calls of the unit: a refusal alters nothing, and advancing never stores. Assumes nothing.
use Rattle.std.specs.Prelude.{Err, None, Ok, Option, Result, Some}
use Rattle.ground_setup.specs.declared.Size.{Size}
use Rattle.ground_refusals.specs.declared.Refusal.{Refusal}
use Prim.Native.Nat.{ℕ}
use native.Mathlib.Omega.{arith}
use mathlib.Core.Path.{◌≡◌, refl}
use mathlib.Core.List.{List}
use lib.Dec.{eqb, leb}
use lib.ListN.{length}
use Rattle.ground_setup.specs.Setup.{size_of, sized_of}
use Rattle.ground_words.proofs.Laws.{either_way}
use Rattle.unit_head.specs.Head.{DisplayUnit, size_in}
use Rattle.unit_loading.specs.Loading.{LoadValues, LoadEnd, load_end, all_proper, loaded_by, unit_load}
use Rattle.unit_codes.specs.Codes.{row_of, sent_by}
use Rattle.unit_codes.specs.declared.Command.{Command}
use Rattle.unit_codes.specs.declared.Command.TheVariants as command
use Rattle.unit_codes.specs.declared.CommandRow.{CommandRow}
use Rattle.unit_commands.specs.Commands.{CommandValues, CommandEnd, done_of, allowed, tried_command, command_by, unit_command}
use Rattle.unit_items.specs.Items.{listing, listed}
use Rattle.unit_items.proofs.Laws.{full_listed}
use Rattle.unit_advance.specs.Advance.{AdvanceValues, AdvanceEnd, all_sights, gone_over, unit_advance}
use Rattle.unit_list.specs.List.{next_items, ListValues, listing_values, ListEnd, unit_list}
use Rattle.theorem_refusals.specs.Refusing.{AsBefore, CommandRefused, LoadRefused, AdvanceRefused, ListRefused, FullKept, NeverStores}

-- an answer that is no refusal
abbrev Ended : CommandEnd → Type 0
Ended o = (n : ℕ) → o.answer ≡ CommandValues.refused n → ⊥

status_ended : (status count n : ℕ) → CommandValues.ended status count ≡ CommandValues.refused n → ⊥
status_ended status count n e = let z : ◌≡◌ {A = ℕ} 0 1 = cc in omega arith

module _ (u : DisplayUnit) (bytes room : List ℕ) where
  done_ended : (k : Command) → Ended (done_of u k bytes room)
  done_ended command.TestIo = status_ended _ _
  done_ended command.WriteBuffer = status_ended _ _
  done_ended command.ReadBuffer = status_ended _ _
  done_ended command.NoOperation = status_ended _ _
  done_ended command.Sense = status_ended _ _
  done_ended command.ReadCursor = status_ended _ _
  done_ended command.SetAndStop = status_ended _ _
  done_ended command.Alarm = status_ended _ _
  done_ended command.InsertCursor = status_ended _ _
  done_ended command.ReadXy = status_ended _ _
  done_ended command.RemoveCursor = status_ended _ _
  done_ended command.SetAndStart = status_ended _ _
  done_ended command.Invalid = status_ended _ _

  tried_ended : (row : CommandRow) → Ended (tried_command u row bytes room)
  unfolding tried_command
  tried_ended row =
      either_way Ended (eqb u.head.status 0)
      (either_way Ended (allowed row.running u.head.state.running) (done_ended row.command) (status_ended _ _)) (status_ended _ _)

  command_by_lem : (row : CommandRow) (fit : Result (Unit {0}) Refusal) (n : ℕ) → (command_by u row bytes room fit).answer ≡ CommandValues.refused n
      → AsBefore u (command_by u row bytes room fit).unit room (command_by u row bytes room fit).room
  command_by_lem row (Ok tt) n e = absurd (tried_ended row n e)
  command_by_lem row (Err r) n e = record { unit = refl; memory = refl }

pub command_refused : CommandRefused
unfolding unit_command
command_refused u code bytes room n e = command_by_lem u bytes room (row_of code) (sent_by (size_in u) (row_of code).takes bytes) n e

module _ (u : DisplayUnit) (dump : List ℕ) where
  -- a refusal leaves the unit
  abbrev LeftAlone : LoadEnd → Type 0
  LeftAlone l = (n : ℕ) → l.answer ≡ LoadValues.refused n → l.unit ≡ u

  done_left : (x : DisplayUnit) → LeftAlone (load_end x LoadValues.loaded)
  done_left x n e = let z : ◌≡◌ {A = ℕ} 0 1 = cc in absurd (omega arith)

  loaded_by_lem : (s : Result Size Refusal) → LeftAlone (loaded_by u dump s)
  loaded_by_lem (Err r) = λ n e. refl
  loaded_by_lem (Ok s) =
      either_way LeftAlone (eqb (length dump) (size_of s)) (either_way LeftAlone (all_proper dump) (done_left _) (λ n e. refl)) (λ n e. refl)

pub load_refused_lem : LoadRefused
unfolding unit_load
load_refused_lem u size dump = loaded_by_lem u dump (sized_of size)

advanced_on : (steps why n : ℕ) {A : Type 0} → AdvanceValues.advanced steps why ≡ AdvanceValues.refused n → A
advanced_on steps why n e = let z : ◌≡◌ {A = ℕ} 0 1 = cc in absurd (omega arith)

pub advance_refused : AdvanceRefused
unfolding unit_advance gone_over
advance_refused u sights =
    either_way (λ (r : AdvanceEnd). (n : ℕ) → r.answer ≡ AdvanceValues.refused n → r.unit ≡ u) (all_sights sights)
    (λ n e. advanced_on _ _ n e) (λ n e. refl)

module _ (u : DisplayUnit) (sight held : ℕ) (out : List ℕ) where
  abbrev Refused : ListEnd → Type 0
  Refused r = (n : ℕ) → r.answer ≡ ListValues.refused n → r.list ≡ out

  abbrev Fully : ListEnd → Type 0
  Fully r = r.answer ≡ ListValues.full → r.list ≡ out

  abbrev put : Option ℕ → ListEnd
  put l = record { answer = listing_values l; list = listed out held (next_items u sight) }

  put_on : (l : Option ℕ) → Refused (put l)
  put_on None n e = let z : ◌≡◌ {A = ℕ} 0 1 = cc in absurd (omega arith)
  put_on (Some k) n e = let z : ◌≡◌ {A = ℕ} 0 1 = cc in absurd (omega arith)

  put_full : (l : Option ℕ) → listing (length out) held (next_items u sight) ≡ l → Fully (put l)
  put_full None h e = full_listed out held (next_items u sight) h
  put_full (Some k) h e = let z : ◌≡◌ {A = ℕ} 0 1 = cc in absurd (omega arith)

pub list_refused : ListRefused
unfolding unit_list
list_refused u sight held out =
    either_way (Refused u sight held out) (leb sight 2) (put_on u sight held out (listing (length out) held (next_items u sight))) (λ n e. refl)

pub full_kept : FullKept
unfolding unit_list
full_kept u sight held out =
    either_way (Fully u sight held out) (leb sight 2) (put_full u sight held out (listing (length out) held (next_items u sight)) refl) (λ e. refl)

pub never_stores : NeverStores
unfolding unit_advance gone_over
never_stores u sights = either_way (λ (r : AdvanceEnd). r.unit.words ≡ u.words) (all_sights sights) refl refl
