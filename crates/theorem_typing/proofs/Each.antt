-- What a key does, case by case: what is shown of each case holds of every key. Assumes nothing.
use Rattle.std.specs.Prelude.{Err, None, Ok, Option, Result, Some}
use Prim.Native.Nat.{ℕ}
use mathlib.Core.Path.{◌≡◌, refl}
use mathlib.Core.Bool.{Bool, true, false, cond}
use Rattle.ground_refusals.specs.Refusals.{refusal_number}
use Rattle.ground_refusals.specs.declared.Refusal.{Refusal}
use Rattle.unit_cursor.specs.Cursor.{any_set}
use Rattle.unit_head.specs.Head.{DisplayUnit, size_in, buffer_of}
use Rattle.typing_signs.specs.Signs.{line_at}
use Rattle.typing_seek.specs.Seek.{cursor_in}
use Rattle.typing_moves.specs.Moves.{goes_to}
use Rattle.typing_moves.specs.declared.Direction.TheVariants.{Forward, Backward}
use Rattle.typing_fields.specs.Fields.{field_of}
use Rattle.typing_fields.specs.declared.Field.{Field}
use Rattle.typing_jump.specs.Jump.{jump_of}
use Rattle.typing_keyboard.specs.Acts.{numbered_of, move_by, store_by, character_of, press_in, act_by, act_of}
use Rattle.typing_keyboard.specs.declared.Press.{Press}
use Rattle.typing_keyboard.specs.declared.Press.TheVariants as press
use Rattle.typing_keyboard.specs.declared.Act.TheVariants.{Stay, Move, Store}
use Rattle.typing_keys.specs.Keys.{KeyValues, KeyEnd, key_end, done_by, pressed_by, key_by, unit_key}
use Rattle.theorem_typing.specs.Typing.{CursorAt}

module _ (u : DisplayUnit) (number : ℕ) where
  -- when a character is stored: its key was pressed, the cursor stands in an unprotected field, and on no new line
  pub record Stores (at code : ℕ) : Type 0 where
    pub cursor : CursorAt u at
    pub pressed : numbered_of number ≡ Ok (press.Character code)
    pub field : Field
    pub here : field_of u.words (size_in u) at ≡ Some field
    pub unprotected : field.shut ≡ false
    pub no_line : line_at u.words (size_in u) at ≡ false

  module _ (P : KeyEnd → Type 0)
      (refused : (r : Refusal) → P (key_end u (KeyValues.refused (refusal_number r))))
      (unheard : P (key_end u KeyValues.unheard))
      (stayed : (at : ℕ) → CursorAt u at → P (done_by u at Stay))
      (moved : (at to : ℕ) → CursorAt u at → P (done_by u at (Move to)))
      (stored : (at code to : ℕ) → Stores at code → P (done_by u at (Store code to))) where
    by_move : (at : ℕ) → CursorAt u at → (p : Option ℕ) → P (done_by u at (move_by p))
    by_move at c None = stayed at c
    by_move at c (Some to) = moved at to c

    by_store : (at code : ℕ) → Stores at code → (p : Option ℕ) → P (done_by u at (store_by code at p))
    by_store at code h None = stored at code at h
    by_store at code h (Some to) = stored at code to h

    by_line : (at code : ℕ) (f : Field) → CursorAt u at → numbered_of number ≡ Ok (press.Character code)
        → field_of u.words (size_in u) at ≡ Some f → f.shut ≡ false
        → (t : Bool) → line_at u.words (size_in u) at ≡ t
        → P (done_by u at (cond t (move_by (goes_to u.words (size_in u) Forward at)) (store_by code at (goes_to u.words (size_in u) Forward at))))
    by_line at code f c e h o true l = by_move at c (goes_to u.words (size_in u) Forward at)
    by_line at code f c e h o false l =
        by_store at code (record { cursor = c; pressed = e; field = f; here = h; unprotected = o; no_line = l }) (goes_to u.words (size_in u) Forward at)

    by_character : (at code : ℕ) (f : Field) → CursorAt u at → numbered_of number ≡ Ok (press.Character code)
        → field_of u.words (size_in u) at ≡ Some f → (shut : Bool) → f.shut ≡ shut
        → P (done_by u at (cond shut Stay (character_of u.words u.head.state at code)))
    unfolding character_of
    by_character at code f c e h true o = stayed at c
    by_character at code f c e h false o = by_line at code f c e h o (line_at u.words (size_in u) at) refl

    by_press : (at : ℕ) (f : Field) → CursorAt u at → field_of u.words (size_in u) at ≡ Some f
        → (k : Press) → numbered_of number ≡ Ok k → P (done_by u at (press_in u.words u.head.state at f k))
    by_press at f c h (press.Character code) e = by_character at code f c e h f.shut refl
    by_press at f c h press.Advance e = by_move at c (goes_to u.words (size_in u) Forward at)
    by_press at f c h press.Backspace e = by_move at c (goes_to u.words (size_in u) Backward at)
    by_press at f c h press.Jump e = by_move at c (jump_of u.words u.head.state at f.mode)

    by_field : (at : ℕ) → CursorAt u at → (k : Press) → numbered_of number ≡ Ok k
        → (f : Option Field) → field_of u.words (size_in u) at ≡ f → P (done_by u at (act_by u.words u.head.state at k f))
    by_field at c k e None h = stayed at c
    by_field at c k e (Some f) h = by_press at f c h k e

    by_cursor : (k : Press) → numbered_of number ≡ Ok k → (p : Option ℕ) → cursor_in (buffer_of u) (size_in u) ≡ p → P (pressed_by u k p)
    unfolding act_of
    by_cursor k e None c = unheard
    by_cursor k e (Some at) c = by_field at c k e (field_of u.words (size_in u) at) refl

    by_any : (k : Press) → numbered_of number ≡ Ok k → (t : Bool) → P (pressed_by u k (cond t (cursor_in (buffer_of u) (size_in u)) None))
    by_any k e true = by_cursor k e (cursor_in (buffer_of u) (size_in u)) refl
    by_any k e false = unheard

    by_number : (q : Result Press Refusal) → numbered_of number ≡ q → P (key_by u q)
    by_number (Err r) e = refused r
    by_number (Ok k) e = by_any k e (any_set u.head.cursor)

    pub each : P (unit_key u number)
    unfolding unit_key
    each = by_number (numbered_of number) refl
