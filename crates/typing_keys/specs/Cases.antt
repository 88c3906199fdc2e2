-- Worked cases of the keyboard, as one table over the definitions: 001, Figures 4-5 to 4-14, Example 3 of 000 (p.31 and 32), the
-- texts that 001 corrects, and the cases that the books leave open.
use Rattle.std.specs.Prelude.{Bool, true, false, List, [], ◌∷◌, ◌++◌, map, ℕ, eqb, length}
use Rattle.ground_location.specs.Location.{word_of}
use Rattle.ground_setup.specs.declared.Size.TheVariants.{K4}
use Rattle.unit_cursor.specs.Cursor.{cursors, cursors_in}
use Rattle.unit_head.specs.Head.{DisplayUnit, unit, fresh_head}
use Rattle.typing_keys.specs.Keys.{KeyValues, KeyEnd, key_end, unit_key}

-- the words before, the keys, and the words and the last key's answer after
pub record KeyCase : Type 0 where
  pub before : List ℕ
  pub keys : List ℕ
  pub after : List ℕ
  pub answer : KeyValues

abbrev pub case : List ℕ → List ℕ → List ℕ → KeyValues → KeyCase
case before keys after answer = record { before = before; keys = keys; after = after; answer = answer }

-- a byte written without the cursor
abbrev pub plain : ℕ → ℕ
plain b = word_of b false true

-- words behind an order for unprotected basic characters, as the figures have them
abbrev pub field : List ℕ → List ℕ
field words = 0x042A ∷ 0x0440 ∷ words

-- words of a protected field before an end order
abbrev pub shut : List ℕ → List ℕ
shut words = (0x042A ∷ 0x0644 ∷ words) ++ (0x042A ∷ 0x0681 ∷ [])

-- Figure 4-11: characters at 2, a graphic field at 8, protected characters at 14, large ones at 18, and a transfer to 0
abbrev pub jumping : ℕ → ℕ → List ℕ
jumping first second =
    (0x042A ∷ 0x0440 ∷ first ∷ 0x04C2 ∷ 0x06C3 ∷ 0x04C4 ∷ [])
    ++ map plain (0x2A ∷ 0x02 ∷ 0x01 ∷ 0x00 ∷ 0x01 ∷ 0x00 ∷ 0x2A ∷ 0x44 ∷ 0xC1 ∷ 0xC2 ∷ 0x2A ∷ 0x41 ∷ [])
    ++ (second ∷ 0x04C2 ∷ 0x06C3 ∷ 0x04C4 ∷ [])
    ++ map plain (0x2A ∷ 0xFF ∷ 0x00 ∷ 0x00 ∷ [])

-- Table 6 (000 p.30): the box, with the words of its name at 42 to 47
abbrev pub box : List ℕ → List ℕ
box name =
    map plain
    (0x2A ∷ 0x82 ∷ 0x2A ∷ 0x02 ∷ 0x43 ∷ 0x20 ∷ 0x03 ∷ 0x20 ∷ 0x09 ∷ 0x60 ∷ 0x03 ∷ 0x20 ∷ 0x09 ∷ 0x60 ∷ 0x09 ∷ 0x60 ∷ 0x03 ∷ 0x20
    ∷ 0x09 ∷ 0x60 ∷ 0x03 ∷ 0x20 ∷ 0x03 ∷ 0x20 ∷ 0x41 ∷ 0x90 ∷ 0x0A ∷ 0xF0 ∷ 0x2A ∷ 0x44 ∷ 0xC2 ∷ 0xD6 ∷ 0xE7 ∷ 0x40 ∷ 0xD5 ∷ 0xC1
    ∷ 0xD4 ∷ 0xC5 ∷ 0x40 ∷ 0x00 ∷ 0x2A ∷ 0x40 ∷ [])
    ++ name
    ++ map plain (0x2A ∷ 0xFF ∷ 0x00 ∷ 0x00 ∷ [])

abbrev pub key_cases : List KeyCase
key_cases =
    -- 001 4-11, Figure 4-5: advance
    case (field (0x07C1 ∷ 0x04C2 ∷ 0x06C3 ∷ 0x04C4 ∷ [])) (256 ∷ []) (field (0x04C1 ∷ 0x07C2 ∷ 0x06C3 ∷ 0x04C4 ∷ [])) (KeyValues.heard false 3)
    -- 001 4-12, Figure 4-6: advance into a new line
    ∷ case (field (0x07C1 ∷ 0x0415 ∷ 0x04C2 ∷ 0x06C3 ∷ [])) (256 ∷ []) (field (0x04C1 ∷ 0x0415 ∷ 0x07C2 ∷ 0x06C3 ∷ [])) (KeyValues.heard false 4)
    -- 001 4-13, Figure 4-7: advance into a mode code
    ∷ case (field (0x04C1 ∷ 0x04C2 ∷ 0x06C3 ∷ 0x07C4 ∷ 0x042A ∷ [])) (256 ∷ []) (field (0x04C1 ∷ 0x04C2 ∷ 0x06C3 ∷ 0x07C4 ∷ 0x042A ∷ [])) (KeyValues.heard false 5)
    -- 001 4-14, Figure 4-8: backspace
    ∷ case (field (0x04C1 ∷ 0x04C2 ∷ 0x05C3 ∷ 0x04C4 ∷ [])) (257 ∷ []) (field (0x04C1 ∷ 0x07C2 ∷ 0x06C3 ∷ 0x04C4 ∷ [])) (KeyValues.heard false 3)
    -- 001 4-15, Figure 4-9: backspace into a new line
    ∷ case (field (0x04C1 ∷ 0x0415 ∷ 0x07C2 ∷ [])) (257 ∷ []) (field (0x07C1 ∷ 0x0415 ∷ 0x04C2 ∷ [])) (KeyValues.heard false 2)
    -- 001 4-15, Figure 4-10: backspace into the mode code
    ∷ case (field (0x07C1 ∷ 0x04C2 ∷ 0x06C3 ∷ [])) (257 ∷ []) (field (0x07C1 ∷ 0x04C2 ∷ 0x06C3 ∷ [])) (KeyValues.heard false 2)
    -- 001 4-16, Figure 4-11: jump over a graphic field and a protected one; and again, round the transfer to the first field
    ∷ case (jumping 0x07C1 0x04C1) (258 ∷ []) (jumping 0x04C1 0x07C1) (KeyValues.heard false 18)
    ∷ case (jumping 0x04C1 0x07C1) (258 ∷ []) (jumping 0x07C1 0x04C1) (KeyValues.heard false 2)
    -- 001 4-16A, Figure 4-12: a character
    ∷ case (field (0x04C1 ∷ 0x07C2 ∷ 0x06C3 ∷ 0x04C4 ∷ [])) (0xE7 ∷ []) (field (0x04C1 ∷ 0x06E7 ∷ 0x05C3 ∷ 0x04C4 ∷ [])) (KeyValues.heard true 4)
    -- 001 4-16B, Figure 4-13: a character before a new line
    ∷ case (field (0x04C1 ∷ 0x07C2 ∷ 0x0415 ∷ 0x06C3 ∷ 0x042A ∷ [])) (0xE7 ∷ []) (field (0x04C1 ∷ 0x06E7 ∷ 0x0415 ∷ 0x05C3 ∷ 0x042A ∷ [])) (KeyValues.heard true 5)
    -- 001 4-16C, Figure 4-14: a character before a mode code
    ∷ case (field (0x04C1 ∷ 0x04C2 ∷ 0x06C3 ∷ 0x07C4 ∷ 0x042A ∷ [])) (0xE7 ∷ []) (field (0x04C1 ∷ 0x04C2 ∷ 0x06C3 ∷ 0x05E7 ∷ 0x042A ∷ [])) (KeyValues.heard true 5)
    -- 000 p.31 and 32, Example 3: BOX 12 is keyed in, the last place is keyed over, backspace, and jump back to the first place
    ∷ case (box (0x0740 ∷ 0x0440 ∷ 0x0440 ∷ 0x0440 ∷ 0x0440 ∷ 0x0440 ∷ [])) (0xC2 ∷ []) (box (0x04C2 ∷ 0x0740 ∷ 0x0440 ∷ 0x0440 ∷ 0x0440 ∷ 0x0440 ∷ [])) (KeyValues.heard true 43)
    ∷ case (box (0x04C2 ∷ 0x0740 ∷ 0x0440 ∷ 0x0440 ∷ 0x0440 ∷ 0x0440 ∷ [])) (0xD6 ∷ []) (box (0x04C2 ∷ 0x04D6 ∷ 0x0740 ∷ 0x0440 ∷ 0x0440 ∷ 0x0440 ∷ [])) (KeyValues.heard true 44)
    ∷ case (box (0x04C2 ∷ 0x04D6 ∷ 0x0740 ∷ 0x0440 ∷ 0x0440 ∷ 0x0440 ∷ [])) (0xE7 ∷ []) (box (0x04C2 ∷ 0x04D6 ∷ 0x06E7 ∷ 0x0740 ∷ 0x0440 ∷ 0x0440 ∷ [])) (KeyValues.heard true 45)
    ∷ case (box (0x04C2 ∷ 0x04D6 ∷ 0x06E7 ∷ 0x0740 ∷ 0x0440 ∷ 0x0440 ∷ [])) (0x40 ∷ []) (box (0x04C2 ∷ 0x04D6 ∷ 0x06E7 ∷ 0x0440 ∷ 0x0740 ∷ 0x0440 ∷ [])) (KeyValues.heard true 46)
    ∷ case (box (0x04C2 ∷ 0x04D6 ∷ 0x06E7 ∷ 0x0440 ∷ 0x0740 ∷ 0x0440 ∷ [])) (0xF1 ∷ []) (box (0x04C2 ∷ 0x04D6 ∷ 0x06E7 ∷ 0x0440 ∷ 0x04F1 ∷ 0x0740 ∷ [])) (KeyValues.heard true 47)
    ∷ case (box (0x04C2 ∷ 0x04D6 ∷ 0x06E7 ∷ 0x0440 ∷ 0x04F1 ∷ 0x0740 ∷ [])) (0xF2 ∷ []) (box (0x04C2 ∷ 0x04D6 ∷ 0x06E7 ∷ 0x0440 ∷ 0x04F1 ∷ 0x07F2 ∷ [])) (KeyValues.heard true 47)
    ∷ case (box (0x04C2 ∷ 0x04D6 ∷ 0x06E7 ∷ 0x0440 ∷ 0x04F1 ∷ 0x07F2 ∷ [])) (0xF3 ∷ []) (box (0x04C2 ∷ 0x04D6 ∷ 0x06E7 ∷ 0x0440 ∷ 0x04F1 ∷ 0x05F3 ∷ [])) (KeyValues.heard true 47)
    ∷ case (box (0x04C2 ∷ 0x04D6 ∷ 0x06E7 ∷ 0x0440 ∷ 0x04F1 ∷ 0x05F3 ∷ [])) (257 ∷ []) (box (0x04C2 ∷ 0x04D6 ∷ 0x06E7 ∷ 0x0440 ∷ 0x07F1 ∷ 0x06F3 ∷ [])) (KeyValues.heard false 46)
    ∷ case (box (0x04C2 ∷ 0x04D6 ∷ 0x06E7 ∷ 0x0440 ∷ 0x07F1 ∷ 0x06F3 ∷ [])) (258 ∷ []) (box (0x07C2 ∷ 0x04D6 ∷ 0x06E7 ∷ 0x0440 ∷ 0x04F1 ∷ 0x06F3 ∷ [])) (KeyValues.heard false 42)
    ∷ case (box (0x0740 ∷ 0x0440 ∷ 0x0440 ∷ 0x0440 ∷ 0x0440 ∷ 0x0440 ∷ [])) (0xC2 ∷ 0xD6 ∷ 0xE7 ∷ 0x40 ∷ 0xF1 ∷ 0xF2 ∷ 0xF3 ∷ 257 ∷ 258 ∷ []) (box (0x07C2 ∷ 0x04D6 ∷ 0x06E7 ∷ 0x0440 ∷ 0x04F1 ∷ 0x06F3 ∷ [])) (KeyValues.heard false 42)
    -- 001 3-16 and 3-17: LOU with the cursor under O, advance and backspace
    ∷ case (field (0x04D3 ∷ 0x07D6 ∷ 0x06E4 ∷ 0x0440 ∷ [])) (256 ∷ []) (field (0x04D3 ∷ 0x04D6 ∷ 0x05E4 ∷ 0x0440 ∷ [])) (KeyValues.heard false 4)
    ∷ case (field (0x04D3 ∷ 0x07D6 ∷ 0x06E4 ∷ 0x0440 ∷ [])) (257 ∷ []) (field (0x07D3 ∷ 0x04D6 ∷ 0x06E4 ∷ 0x0440 ∷ [])) (KeyValues.heard false 2)
    -- 001 4-7: RECIEVR is corrected to RECEIVE
    ∷ case (field (0x04D9 ∷ 0x06C5 ∷ 0x06C3 ∷ 0x06C9 ∷ 0x06C5 ∷ 0x04E5 ∷ 0x04D9 ∷ 0x0740 ∷ [])) (257 ∷ 257 ∷ 257 ∷ 257 ∷ 0xC5 ∷ 0xC9 ∷ 256 ∷ 0xC5 ∷ []) (field (0x04D9 ∷ 0x06C5 ∷ 0x06C3 ∷ 0x06C5 ∷ 0x06C9 ∷ 0x04E5 ∷ 0x06C5 ∷ 0x0740 ∷ [])) (KeyValues.heard true 9)
    -- 001 4-8: CANNOT is made CAN by three nulls
    ∷ case (field (0x06C3 ∷ 0x04C1 ∷ 0x04D5 ∷ 0x07D5 ∷ 0x04D6 ∷ 0x04E3 ∷ 0x0440 ∷ [])) (0x00 ∷ 0x00 ∷ 0x00 ∷ []) (field (0x06C3 ∷ 0x04C1 ∷ 0x04D5 ∷ 0x0600 ∷ 0x0600 ∷ 0x0600 ∷ 0x0740 ∷ [])) (KeyValues.heard true 8)
    -- 001 4-9: LOU by key entry; HENRY in the place of nulls
    ∷ case (field (0x04D3 ∷ 0x0740 ∷ 0x0440 ∷ 0x0440 ∷ [])) (0xD6 ∷ 0xE4 ∷ []) (field (0x04D3 ∷ 0x04D6 ∷ 0x06E4 ∷ 0x0740 ∷ [])) (KeyValues.heard true 5)
    ∷ case (field (0x07C8 ∷ 0x0600 ∷ 0x0600 ∷ 0x0600 ∷ 0x06E8 ∷ 0x0440 ∷ [])) (256 ∷ 0xC5 ∷ 0xD5 ∷ 0xD9 ∷ []) (field (0x04C8 ∷ 0x06C5 ∷ 0x04D5 ∷ 0x04D9 ∷ 0x05E8 ∷ 0x0440 ∷ [])) (KeyValues.heard true 6)
    -- 000 p.36: in a protected field a character key does nothing; advance goes to the end of the field; jump stays before an end order
    ∷ case (shut (0x07C1 ∷ 0x04C2 ∷ [])) (0xE7 ∷ []) (shut (0x07C1 ∷ 0x04C2 ∷ [])) (KeyValues.heard false 2)
    ∷ case (shut (0x07C1 ∷ 0x04C2 ∷ [])) (256 ∷ 256 ∷ []) (shut (0x04C1 ∷ 0x07C2 ∷ [])) (KeyValues.heard false 3)
    ∷ case (shut (0x07C1 ∷ 0x04C2 ∷ [])) (258 ∷ []) (shut (0x07C1 ∷ 0x04C2 ∷ [])) (KeyValues.heard false 2)
    -- a cursor on a new line: a character key stores nothing and goes on
    ∷ case (field (0x04C1 ∷ 0x0715 ∷ 0x04C2 ∷ [])) (0xE7 ∷ []) (field (0x04C1 ∷ 0x0415 ∷ 0x07C2 ∷ [])) (KeyValues.heard false 4)
    -- two new lines in a row
    ∷ case (field (0x07C1 ∷ 0x0415 ∷ 0x0415 ∷ 0x04C2 ∷ [])) (256 ∷ []) (field (0x04C1 ∷ 0x0415 ∷ 0x0415 ∷ 0x07C2 ∷ [])) (KeyValues.heard false 5)
    -- a new line straight before a mode code keeps the cursor (Figure 4-6, then 4-7), and so does one that is first in its field (4-9, then
    -- 4-10)
    ∷ case (field (0x04C1 ∷ 0x07C2 ∷ 0x0415 ∷ 0x0415 ∷ 0x042A ∷ [])) (256 ∷ []) (field (0x04C1 ∷ 0x04C2 ∷ 0x0415 ∷ 0x0715 ∷ 0x042A ∷ [])) (KeyValues.heard false 5)
    ∷ case (field (0x04C1 ∷ 0x04C2 ∷ 0x05C3 ∷ 0x0415 ∷ 0x042A ∷ [])) (256 ∷ []) (field (0x04C1 ∷ 0x04C2 ∷ 0x06C3 ∷ 0x0715 ∷ 0x042A ∷ [])) (KeyValues.heard false 5)
    ∷ case (field (0x0415 ∷ 0x07C2 ∷ [])) (257 ∷ []) (field (0x0715 ∷ 0x04C2 ∷ [])) (KeyValues.heard false 2)
    -- there advance, backspace and a character key change nothing
    ∷ case (field (0x04C1 ∷ 0x0715 ∷ 0x042A ∷ [])) (256 ∷ []) (field (0x04C1 ∷ 0x0715 ∷ 0x042A ∷ [])) (KeyValues.heard false 3)
    ∷ case (field (0x04C1 ∷ 0x0715 ∷ 0x042A ∷ [])) (0xE7 ∷ []) (field (0x04C1 ∷ 0x0715 ∷ 0x042A ∷ [])) (KeyValues.heard false 3)
    ∷ case (field (0x0715 ∷ 0x04C2 ∷ [])) (257 ∷ []) (field (0x0715 ∷ 0x04C2 ∷ [])) (KeyValues.heard false 2)
    -- a character key before such a new line stores its character (4-13, then 4-14), and the cursor rests on the new line
    ∷ case (field (0x04C1 ∷ 0x07C2 ∷ 0x06C3 ∷ 0x0415 ∷ 0x042A ∷ [])) (256 ∷ 0xE7 ∷ []) (field (0x04C1 ∷ 0x04C2 ∷ 0x06E7 ∷ 0x0715 ∷ 0x042A ∷ [])) (KeyValues.heard true 5)
    -- setting the bit clears that of the pair (000 p.21, note 3)
    ∷ case (field (0x04C1 ∷ 0x07C2 ∷ 0x06C3 ∷ 0x07C4 ∷ [])) (256 ∷ []) (field (0x04C1 ∷ 0x04C2 ∷ 0x05C3 ∷ 0x04C4 ∷ [])) (KeyValues.heard false 4)
    -- 000 p.21, note 2: a cursor at an order, or among coordinates, is heard and stays
    ∷ case (0x072A ∷ 0x0440 ∷ 0x04C1 ∷ []) (256 ∷ []) (0x072A ∷ 0x0440 ∷ 0x04C1 ∷ []) (KeyValues.heard false 0)
    ∷ case (0x042A ∷ 0x0402 ∷ 0x07C1 ∷ 0x04C2 ∷ []) (0xE7 ∷ []) (0x042A ∷ 0x0402 ∷ 0x07C1 ∷ 0x04C2 ∷ []) (KeyValues.heard false 2)
    -- where several are set, the lowest address counts
    ∷ case (field (0x04C1 ∷ 0x07C2 ∷ 0x06C3 ∷ 0x07C4 ∷ 0x042A ∷ [])) (257 ∷ []) (field (0x07C1 ∷ 0x04C2 ∷ 0x06C3 ∷ 0x07C4 ∷ 0x042A ∷ [])) (KeyValues.heard false 2)
    -- words touched have their ones made odd, and a move does not set "written"
    ∷ case (field (0x01C1 ∷ 0x02C2 ∷ [])) (256 ∷ []) (field (0x00C1 ∷ 0x03C2 ∷ [])) (KeyValues.heard false 3)
    -- no cursor bit set; numbers that no key has
    ∷ case (field (0x04C1 ∷ 0x04C2 ∷ [])) (0xE7 ∷ []) (field (0x04C1 ∷ 0x04C2 ∷ [])) KeyValues.unheard
    ∷ case (field (0x07C1 ∷ 0x04C2 ∷ [])) (0x15 ∷ []) (field (0x07C1 ∷ 0x04C2 ∷ [])) (KeyValues.refused 13)
    ∷ case (field (0x07C1 ∷ 0x04C2 ∷ [])) (0x2A ∷ []) (field (0x07C1 ∷ 0x04C2 ∷ [])) (KeyValues.refused 13)
    ∷ case (field (0x07C1 ∷ 0x04C2 ∷ [])) (0xC0 ∷ []) (field (0x07C1 ∷ 0x04C2 ∷ [])) (KeyValues.refused 13)
    ∷ case (field (0x07C1 ∷ 0x04C2 ∷ [])) (0xFF ∷ []) (field (0x07C1 ∷ 0x04C2 ∷ [])) (KeyValues.refused 13)
    ∷ case (field (0x07C1 ∷ 0x04C2 ∷ [])) (259 ∷ []) (field (0x07C1 ∷ 0x04C2 ∷ [])) (KeyValues.refused 13)
    ∷ case (field (0x07C1 ∷ 0x04C2 ∷ [])) (65535 ∷ []) (field (0x07C1 ∷ 0x04C2 ∷ [])) (KeyValues.refused 13)
    ∷ []

-- the keys one after another, and the last one's answer
abbrev pub typed : List ℕ → KeyEnd → KeyEnd
typed [] k = k
typed (n ∷ ns) k = typed ns (unit_key k.unit n)

-- a fresh unit with these words
abbrev pub holding : List ℕ → DisplayUnit
holding words = unit words (fresh_head K4 (cursors (cursors_in (length words) words)))

-- what is left of a case: the words, whether the number is their full count, and the last answer
pub record KeyLeft : Type 0 where
  pub words : List ℕ
  pub counted : Bool
  pub answer : KeyValues

abbrev pub left_by : KeyEnd → KeyLeft
left_by k =
    record { words = k.unit.words; counted = eqb k.unit.head.cursor.count (cursors_in (length k.unit.words) k.unit.words); answer = k.answer }

abbrev pub results : KeyCase → KeyLeft
results c = left_by (typed c.keys (key_end (holding c.before) KeyValues.unheard))

abbrev pub expected : KeyCase → KeyLeft
expected c = record { words = c.after; counted = true; answer = c.answer }
