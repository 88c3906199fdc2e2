-- The two ways to bring an image into a unit, by Write Buffer and by a dump: both leave words that carry it.
use Rattle.std.specs.Prelude.{ℕ, ◌-◌, ◌≤◌, ◌≡◌, true, false, List, ◌++◌, map, length, replicate}
use Rattle.ground_location.specs.Location.{fresh_word, word_of}
use Rattle.ground_setup.specs.Setup.{size_of}
use Rattle.ground_setup.specs.declared.Size.{Size}
use Rattle.ground_look.specs.Loaded.{Carries}
use Rattle.unit_head.specs.Head.{DisplayUnit, size_in}
use Rattle.unit_loading.specs.Loading.{LoadValues, load_end, fresh_loaded, unit_load}
use Rattle.unit_commands.specs.Commands.{unit_command}
use Rattle.theorem_roundtrips.specs.RoundTrips.{Bytes, Quiet}

-- an image that Write Buffer stores from address 0 on is carried, whatever the unit held before
abbrev pub WrittenImage : Type 0
WrittenImage =
    (u : DisplayUnit) (image room : List ℕ)
    → Quiet u
    → u.head.state.address ≡ 0
    → Bytes image
    → length image ≤ size_of (size_in u)
    → Carries (unit_command u 0x01 image room).unit.words image

-- the word that a write stores of a byte
abbrev pub written_word : ℕ → ℕ
written_word b = word_of b false true

-- the dump of an image: its bytes as written words, and fresh words behind them
abbrev pub dump_of : Size → List ℕ → List ℕ
dump_of s image = map written_word image ++ replicate (size_of s - length image) fresh_word

-- such a dump is loaded, whatever the unit was,
abbrev pub DumpLoaded : Type 0
DumpLoaded =
    (u : DisplayUnit) (s : Size) (image : List ℕ)
    → Bytes image
    → length image ≤ size_of s
    → unit_load u (size_of s) (dump_of s image) ≡ load_end (fresh_loaded (length u.words) s (dump_of s image)) LoadValues.loaded

-- and the image is carried
abbrev pub DumpImage : Type 0
DumpImage =
    (n : ℕ) (s : Size) (image : List ℕ)
    → size_of s ≤ n
    → Bytes image
    → length image ≤ size_of s
    → Carries (fresh_loaded n s (dump_of s image)).words image
