-- The keys of the alphameric keyboard by their numbers, and what each does at the cursor (C-13; 000 p.13, Figure 7, and p.35 and 36;
-- 001 4-6 to 4-9 and Figures 4-5 to 4-14).
use Rattle.std.specs.Prelude.{ℕ, Bool, cond, ◌&&◌, ◌||◌, List, eqb, ltb, leb, Err, None, Ok, Option, Result, Some}
use Rattle.ground_refusals.specs.declared.Refusal.{Refusal}
use Rattle.ground_refusals.specs.declared.Refusal.TheVariants.{UnknownKey}
use Rattle.unit_head.specs.declared.State.{State}
use Rattle.typing_signs.specs.Signs.{line_at}
use Rattle.typing_moves.specs.Moves.{goes_to}
use Rattle.typing_moves.specs.declared.Direction.TheVariants.{Forward, Backward}
use Rattle.typing_fields.specs.Fields.{field_of}
use Rattle.typing_fields.specs.declared.Field.{Field}
use Rattle.typing_jump.specs.Jump.{jump_of}
use Rattle.typing_keyboard.specs.declared.Press.{Press}
use Rattle.typing_keyboard.specs.declared.Press.TheVariants as press
use Rattle.typing_keyboard.specs.declared.Act.{Act}
use Rattle.typing_keyboard.specs.declared.Act.TheVariants.{Stay, Move, Store}

abbrev pub within : ℕ → ℕ → ℕ → Bool
within low high n = leb low n && leb n high

-- Figure 7 (000 p.13), the 64 codes without a star: letters and digits
unfoldable pub letter_of : ℕ → Bool
letter_of n = within 0xC1 0xC9 n || (within 0xD1 0xD9 n || (within 0xE2 0xE9 n || within 0xF0 0xF9 n))

-- signs, blank and null
unfoldable pub sign_of : ℕ → Bool
sign_of n =
    within 0x4A 0x50 n || (within 0x5A 0x61 n || (within 0x6B 0x6F n || (within 0x7A 0x7F n || (within 0x40 0x40 n || within 0x00 0x00 n))))

-- the keys of characters have their codes as numbers; 256 is advance, 257 backspace, 258 jump; "13 key number unknown"
abbrev pub coded_of : ℕ → Result Press Refusal
coded_of n = cond (letter_of n || sign_of n) (Ok (press.Character n)) (Err UnknownKey)

unfoldable pub numbered_of : ℕ → Result Press Refusal
numbered_of n =
    cond (ltb n 0x100) (coded_of n)
    (cond (eqb n 256) (Ok press.Advance)
    (cond (eqb n 257) (Ok press.Backspace) (cond (eqb n 258) (Ok press.Jump) (Err UnknownKey))))

-- the cursor goes to a location that was looked for, and stays where there is none
abbrev pub move_by : Option ℕ → Act
move_by None = Stay
move_by (Some to) = Move to

-- "As characters are entered, the cursor is automatically stepped to succeeding character positions" (000 p.36); before a mode code
-- the character is stored and the cursor stays on it (Figure 4-14)
abbrev pub store_by : ℕ → ℕ → Option ℕ → Act
store_by code at None = Store code at
store_by code at (Some to) = Store code to

-- a character key at a location: on a new line nothing is stored and the cursor goes on (second half of Figure 4-13)
unfoldable pub character_of : List ℕ → State → ℕ → ℕ → Act
character_of words s at code =
    cond (line_at words s.setup.size at) (move_by (goes_to words s.setup.size Forward at)) (store_by code at (goes_to words s.setup.size Forward at))

-- each key in a field of characters: "Cursor operation in a protected area is the same as in an unprotected area except that keyboard
-- data cannot be entered" (000 p.36)
abbrev pub press_in : List ℕ → State → ℕ → Field → Press → Act
press_in words s at f (press.Character code) = cond f.shut Stay (character_of words s at code)
press_in words s at f press.Advance = move_by (goes_to words s.setup.size Forward at)
press_in words s at f press.Backspace = move_by (goes_to words s.setup.size Backward at)
press_in words s at f press.Jump = move_by (jump_of words s at f.mode)

-- in any other field the cursor "cannot be controlled by keyboard action" (000 p.21, note 2)
abbrev pub act_by : List ℕ → State → ℕ → Press → Option Field → Act
act_by words s at k None = Stay
act_by words s at k (Some f) = press_in words s at f k

-- what a key does at a cursor
unfoldable pub act_of : List ℕ → State → ℕ → Press → Act
act_of words s at k = act_by words s at k (field_of words s.setup.size at)
