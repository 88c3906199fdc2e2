-- What typing at the cursor never does (02, C-13), for every unit and every number of a key.
use Rattle.std.specs.Prelude.{ℕ, ◌≡◌, ◌≢◌, Bool, true, false, get_or, Some}
use Rattle.ground_location.specs.Location.{data_of, good_of, proper_of, Unaltered}
use Rattle.ground_setup.specs.Setup.{wrap_of}
use Rattle.unit_cursor.specs.Cursor.{other_of}
use Rattle.unit_head.specs.declared.Head.{Head}
use Rattle.unit_head.specs.Head.{DisplayUnit, size_in, buffer_of}
use Rattle.typing_signs.specs.Signs.{order_at}
use Rattle.typing_seek.specs.Seek.{cursor_in}
use Rattle.typing_fields.specs.Fields.{field_of}
use Rattle.typing_fields.specs.declared.Field.{Field}
use Rattle.typing_keys.specs.Keys.{KeyValues, unit_key}

-- whether a character was stored
abbrev pub stored_by : KeyValues → Bool
stored_by (KeyValues.refused r) = false
stored_by KeyValues.unheard = false
stored_by (KeyValues.heard stored to) = stored

-- the cursor stands at this location
abbrev pub CursorAt : DisplayUnit → ℕ → Type 0
CursorAt u at = cursor_in (buffer_of u) (size_in u) ≡ Some at

-- the word of a location before a key, and after it
abbrev pub word_before : DisplayUnit → ℕ → ℕ
word_before u k = get_or u.words k 0

abbrev pub word_after : DisplayUnit → ℕ → ℕ → ℕ
word_after u number k = get_or (unit_key u number).unit.words k 0

-- "13 key number unknown": a refusal changes nothing
abbrev pub RefusalChangesNothing : Type 0
RefusalChangesNothing = (u : DisplayUnit) (number r : ℕ) → (unit_key u number).answer ≡ KeyValues.refused r → (unit_key u number).unit ≡ u

-- "With no cursor bit set, a key changes nothing and is reported as unheard"
abbrev pub UnheardChangesNothing : Type 0
UnheardChangesNothing = (u : DisplayUnit) (number : ℕ) → (unit_key u number).answer ≡ KeyValues.unheard → (unit_key u number).unit ≡ u

-- a key changes words and cursor alone: address, mode, beam, pen, status and sense are as they were
pub record HeadKept (h h' : Head) : Type 0 where
  pub state : h'.state ≡ h.state
  pub status : h'.status ≡ h.status
  pub sense : h'.sense ≡ h.sense

abbrev pub HeadStays : Type 0
HeadStays = (u : DisplayUnit) (number : ℕ) → HeadKept u.head (unit_key u number).unit.head

-- "All other locations stay as they were": all but the cursor's, the one that it goes to, and the other one of that one's pair
abbrev pub OthersStay : Type 0
OthersStay =
    (u : DisplayUnit) (number at to k : ℕ) (stored : Bool)
    → CursorAt u at
    → (unit_key u number).answer ≡ KeyValues.heard stored to
    → k ≢ wrap_of (size_in u) at
    → k ≢ wrap_of (size_in u) to
    → k ≢ other_of (wrap_of (size_in u) to)
    → word_after u number k ≡ word_before u k

-- a key that stores nothing alters no location
abbrev pub SilentKey : Type 0
SilentKey =
    (u : DisplayUnit) (number : ℕ) → stored_by (unit_key u number).answer ≡ false → (k : ℕ) → Unaltered (word_before u k) (word_after u number k)

-- "what protected characters refuse": in a protected field no character is stored
abbrev pub ProtectedRefuses : Type 0
ProtectedRefuses =
    (u : DisplayUnit) (number at : ℕ) (f : Field)
    → CursorAt u at
    → field_of u.words (size_in u) at ≡ Some f
    → f.shut ≡ true
    → stored_by (unit_key u number).answer ≡ false

-- "every store keeps that": no parity is spoilt, and no unused bit comes to be set
abbrev pub GoodStays : Type 0
GoodStays = (u : DisplayUnit) (number k : ℕ) → good_of (word_before u k) ≡ true → good_of (word_after u number k) ≡ true

abbrev pub ProperStays : Type 0
ProperStays = (u : DisplayUnit) (number k : ℕ) → proper_of (word_before u k) ≡ true → proper_of (word_after u number k) ≡ true

-- typing can never make a 2A, so no order comes into being
abbrev pub NoOrderMade : Type 0
NoOrderMade = (u : DisplayUnit) (number k : ℕ) → data_of (word_after u number k) ≡ 0x2A → data_of (word_before u k) ≡ 0x2A

-- and none is lost: what was the first byte of an order is one still, and nothing else is
abbrev pub OrdersStay : Type 0
OrdersStay = (u : DisplayUnit) (number k : ℕ) → order_at (unit_key u number).unit.words (size_in u) k ≡ order_at u.words (size_in u) k
