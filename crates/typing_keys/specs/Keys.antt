-- A key on the alphameric keyboard (C-13): what it answers, and the whole unit that it leaves.
use Rattle.std.specs.Prelude.{ℕ, Bool, true, false, cond, List, Err, None, Ok, Option, Result, Some}
use Rattle.ground_refusals.specs.declared.Refusal.{Refusal}
use Rattle.ground_location.specs.Location.{word_of}
use Rattle.ground_refusals.specs.Refusals.{refusal_number}
use Rattle.ground_setup.specs.Setup.{wrap_of}
use Rattle.ground_setup.specs.declared.Size.{Size}
use Rattle.unit_cursor.specs.Cursor.{Buffer, stored, any_set, set_here, cleared_here}
use Rattle.unit_head.specs.declared.Head.{Head}
use Rattle.unit_head.specs.Head.{DisplayUnit, unit, size_in, buffer_of, with_cursor}
use Rattle.typing_seek.specs.Seek.{cursor_in}
use Rattle.typing_keyboard.specs.Acts.{numbered_of, act_of}
use Rattle.typing_keyboard.specs.declared.Press.{Press}
use Rattle.typing_keyboard.specs.declared.Act.{Act}
use Rattle.typing_keyboard.specs.declared.Act.TheVariants.{Stay, Move, Store}
use Rattle.typing_keys.specs.declared.Heard.{Heard}

-- the cursor goes from one location to another: cleared at the one, and set at the other (000 p.21, note 3)
unfoldable pub cursor_moved : Size → ℕ → ℕ → Buffer → Buffer
cursor_moved s at to b = set_here (wrap_of s to) (cleared_here (wrap_of s at) b)

-- "A stored character sets written (house)", and the cursor goes on
unfoldable pub character_stored : Size → ℕ → ℕ → ℕ → Buffer → Buffer
character_stored s at code to b = set_here (wrap_of s to) (stored (wrap_of s at) (word_of code false true) b)

-- a key's answer in 01's numbers: the number of its refusal; unheard; or heard, whether a character was stored, and where the cursor now is
pub data KeyValues : Type 0 where
  refused : ℕ → KeyValues
  unheard : KeyValues
  heard : Bool → ℕ → KeyValues

abbrev pub key_values : Result (Option Heard) Refusal → KeyValues
key_values (Err r) = KeyValues.refused (refusal_number r)
key_values (Ok None) = KeyValues.unheard
key_values (Ok (Some h)) = KeyValues.heard h.stored h.at

-- what a key leaves: the unit, and the answer
pub record KeyEnd : Type 0 where
  pub unit : DisplayUnit
  pub answer : KeyValues

abbrev pub key_end : DisplayUnit → KeyValues → KeyEnd
key_end u a = record { unit = u; answer = a }

-- the same of a call that leaves the words and the head, and answers
abbrev pub key_ended : List ℕ → Head → Result (Option Heard) Refusal → KeyEnd
key_ended words head r = key_end (unit words head) (key_values r)

-- a unit with the buffer that a key leaves
abbrev pub heard_in : DisplayUnit → Buffer → Bool → ℕ → KeyEnd
heard_in u b stored to = key_end (unit b.words (with_cursor u.head b.cursor)) (KeyValues.heard stored to)

-- what a key did at the cursor
abbrev pub done_by : DisplayUnit → ℕ → Act → KeyEnd
done_by u at Stay = heard_in u (buffer_of u) false at
done_by u at (Move to) = heard_in u (cursor_moved (size_in u) at to (buffer_of u)) false to
done_by u at (Store code to) = heard_in u (character_stored (size_in u) at code to (buffer_of u)) true to

-- "With no cursor bit set, a key changes nothing and is reported as unheard"
abbrev pub pressed_by : DisplayUnit → Press → Option ℕ → KeyEnd
pressed_by u k None = key_end u KeyValues.unheard
pressed_by u k (Some at) = done_by u at (act_of u.words u.head.state at k)

-- the cursor, which is looked for where there is any (02, C-15)
abbrev pub sought_in : DisplayUnit → Option ℕ
sought_in u = cond (any_set u.head.cursor) (cursor_in (buffer_of u) (size_in u)) None

-- "A refusal returns its number only and alters nothing."
abbrev pub key_by : DisplayUnit → Result Press Refusal → KeyEnd
key_by u (Err r) = key_end u (KeyValues.refused (refusal_number r))
key_by u (Ok k) = pressed_by u k (sought_in u)

-- a key of this number
unfoldable pub unit_key : DisplayUnit → ℕ → KeyEnd
unit_key u number = key_by u (numbered_of number)
