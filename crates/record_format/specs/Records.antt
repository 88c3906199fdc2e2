-- 01, "Records and the printed verdict": a record is payload length (4 bytes), kind (2 bytes), payload, little-endian;
-- kind 1: size (2), start (2), the image.
use Rattle.std.specs.Prelude.{ℕ, ◌+◌, ◌*◌, ◌<◌, List, cond, length, get_or, ltb, eqb, Option, Some, None, Result, Ok, Err}
use Rattle.std.specs.Option.{unwrap_or}
use Rattle.ground_refusals.specs.declared.Refusal.{Refusal}
use Rattle.ground_refusals.specs.declared.Refusal.TheVariants.{CutOrShort, UnknownKind}
use Rattle.record_format.specs.declared.Header.{Header}
use Rattle.record_format.specs.declared.Header.TheVariants.{Record, Cut, End}
use Rattle.record_format.specs.declared.Image.{Image}

-- little-endian: the two bytes from a place on, the low one first
abbrev pub le16 : List ℕ → ℕ → ℕ
le16 bytes at = get_or bytes at 0 + 256 * get_or bytes (at + 1) 0

-- and the four bytes from a place on
abbrev pub le32 : List ℕ → ℕ → ℕ
le32 bytes at = le16 bytes at + 65536 * le16 bytes (at + 2)

-- of the record at the front of some bytes: its payload's length, its kind, and how many bytes it has in all
unfoldable pub length_in : List ℕ → ℕ
length_in bytes = le32 bytes 0

unfoldable pub kind_in : List ℕ → ℕ
kind_in bytes = le16 bytes 4

abbrev pub extent_of : List ℕ → ℕ
extent_of bytes = 6 + length_in bytes

-- what stands where a header was due: nothing is the end, under six bytes a header cut short, else length and kind
abbrev pub header_of : List ℕ → Header
header_of bytes = cond (eqb (length bytes) 0) End (cond (ltb (length bytes) 6) Cut (Record (length_in bytes) (kind_in bytes)))

-- a length has four bytes, a kind two
abbrev pub HeaderWithin : Header → Type 0
HeaderWithin (Record n kind) = (n < 4294967296) × (kind < 65536)
HeaderWithin Cut = Unit {0}
HeaderWithin End = Unit {0}

-- THE TABLE OF KINDS: of a known kind, how many bytes of its payload a record can need. Kind 1: size, start, and one byte more than the
-- largest buffer that 02 names has
abbrev pub kind_row : ℕ → Option ℕ
kind_row kind = cond (eqb kind 1) (Some 0x8005) None

-- of an unknown kind none can be needed
abbrev pub needed_in : ℕ → ℕ
needed_in kind = unwrap_or (kind_row kind) 0

-- 01, "Tried 7, 6": a cut record of an unknown kind is refused 7, one of a known kind is refused 6
abbrev pub cut_by : Option ℕ → Refusal
cut_by (Some needed) = CutOrShort
cut_by None = UnknownKind

abbrev pub cut_of : ℕ → Refusal
cut_of kind = cut_by (kind_row kind)

-- and a whole payload: the kind first, then whether it is short; then kind 1 has its size and start
abbrev pub payload_of : ℕ → List ℕ → Result Image Refusal
payload_of kind payload =
    cond (eqb kind 1)
    (cond (ltb (length payload) 4) (Err CutOrShort) (Ok (record { size = le16 payload 0; start = le16 payload 2 })))
    (Err UnknownKind)
