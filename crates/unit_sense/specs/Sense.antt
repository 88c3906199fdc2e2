-- Sense data (01, "Status, sense and commands"; 000 p.21 and 22, Table 3): the bits that stand, the four bytes that show them, and what a
-- stop adds to them.
use Rattle.std.specs.Prelude.{ℕ, ◌+◌, ◌/◌, ◌%◌, Bool, true, false, cond, not, ◌&&◌, ◌||◌, List, ltb, length, set}
use Rattle.ground_setup.specs.Setup.{wrap_of}
use Rattle.ground_orders.specs.declared.Mode.{Mode}
use Rattle.ground_orders.specs.declared.Mode.TheVariants.{Idle, Point, Vector, IncrementalPoint, IncrementalVector, Basic, Large}
use Rattle.unit_head.specs.declared.State.{State}
use Rattle.unit_head.specs.declared.Sense.{Sense}

-- new sense bits, which no Sense has given
abbrev pub sensing : Bool → Bool → Bool → Bool → Sense
sensing reject check detect ended = record { reject = reject; check = check; detect = detect; ended = ended; given = false }

-- "if Sense has given those"
abbrev pub sense_given : Sense → Sense
sense_given s = record { reject = s.reject; check = s.check; detect = s.detect; ended = s.ended; given = true }

-- "A stop's new sense bits replace the standing ones if Sense has given those, else join them."
unfoldable pub sense_joined : Sense → Bool → Bool → Bool → Sense
sense_joined s check detect ended =
    cond s.given (sensing false check detect ended)
    (sensing s.reject (s.check || check) (s.detect || detect) (s.ended || ended))

-- a flag's bit in a byte
abbrev pub flagged : Bool → ℕ → ℕ
flagged on mask = cond on mask 0

-- "Sense byte 0: Command Reject 80, Data Check 08, Buffer Running 02."
abbrev pub sense_zero : Sense → Bool → ℕ
sense_zero s running = flagged s.reject 0x80 + flagged s.check 0x08 + flagged running 0x02

abbrev pub is_character : Mode → Bool
is_character Idle = false
is_character Point = false
is_character Vector = false
is_character IncrementalPoint = false
is_character IncrementalVector = false
is_character Basic = true
is_character Large = true

-- "Byte 1: Light-Pen Detect 80, End Order Sequence 40, Character Mode 20." "While running, Character Mode and the last two bytes are zero."
abbrev pub sense_one : Sense → Bool → Mode → ℕ
sense_one s running m = flagged s.detect 0x80 + flagged s.ended 0x40 + flagged (not running && is_character m) 0x20

-- "Bytes 2 and 3: the address, high byte first."
abbrev pub sense_address : State → ℕ
sense_address s = cond s.running 0 (wrap_of s.setup.size s.address)

-- four bytes of a read of fixed length: it "gives as many of its bytes as fit; bytes not given stay"
abbrev pub four_in : List ℕ → ℕ → ℕ → ℕ → ℕ → List ℕ
four_in room a b c d = set (set (set (set room 0 a) 1 b) 2 c) 3 d

abbrev pub four_count : List ℕ → ℕ
four_count room = cond (ltb (length room) 4) (length room) 4

-- the sense bytes in a room
abbrev pub sense_in : List ℕ → State → Sense → List ℕ
sense_in room s bits =
    four_in room (sense_zero bits s.running) (sense_one bits s.running s.mode) (sense_address s / 0x100) (sense_address s % 0x100)
