-- Loading a dump (01, "Locations and the device").
use Rattle.std.specs.Prelude.{ℕ, Bool, cond, List, eqb, length, replicate, Err, Ok, Result}
use Rattle.std.specs.List.{list_all}
use Rattle.std.proofs.lemmas.List.Edits.{sets}
use Rattle.ground_location.specs.Location.{fresh_word, proper_of}
use Rattle.ground_setup.specs.Setup.{size_of, sized_of}
use Rattle.ground_setup.specs.declared.Size.{Size}
use Rattle.ground_refusals.specs.Refusals.{refusal_number}
use Rattle.ground_refusals.specs.declared.Refusal.{Refusal}
use Rattle.ground_refusals.specs.declared.Refusal.TheVariants.{UnusedBit, WrongCount}
use Rattle.unit_cursor.specs.Cursor.{cursors, cursors_in}
use Rattle.unit_head.specs.Head.{DisplayUnit, unit, fresh_head}
use Rattle.unit_head.specs.declared.Head.{Head}

-- no word of a dump has an unused bit set
unfoldable pub all_proper : List ℕ → Bool
all_proper dump = list_all proper_of dump

-- "A dump is a list of such words for the whole buffer"; "a 4,096 unit never uses the upper half": of the n words of the array those behind
-- the dump are fresh
unfoldable pub dump_words : ℕ → List ℕ → List ℕ
dump_words n dump = sets (replicate n fresh_word) 0 dump

-- a fresh unit with the words of a dump, and the full count of their cursor bits (02, C-15)
abbrev pub fresh_loaded : ℕ → Size → List ℕ → DisplayUnit
fresh_loaded n s dump = unit (dump_words n dump) (fresh_head s (cursors (cursors_in (size_of s) (dump_words n dump))))

-- the answer in 01's numbers: loaded, or the number of the refusal
pub data LoadValues : Type 0 where
  loaded : LoadValues
  refused : ℕ → LoadValues

abbrev pub load_values : Result (Unit {0}) Refusal → LoadValues
load_values (Ok tt) = LoadValues.loaded
load_values (Err r) = LoadValues.refused (refusal_number r)

-- what loading leaves: the unit, and the answer
pub record LoadEnd : Type 0 where
  pub unit : DisplayUnit
  pub answer : LoadValues

abbrev pub load_end : DisplayUnit → LoadValues → LoadEnd
load_end u a = record { unit = u; answer = a }

-- the same of a call that leaves the words and the head, and answers
abbrev pub load_ended : List ℕ → Head → Result (Unit {0}) Refusal → LoadEnd
load_ended words head r = load_end (unit words head) (load_values r)

-- "A refusal returns its number only and alters nothing."
abbrev pub load_refused : DisplayUnit → Refusal → LoadEnd
load_refused u r = load_end u (LoadValues.refused (refusal_number r))

-- "loading one gives a fresh device with these words, bad parity included"; refused "1, 10, 9 for dumps"
abbrev pub loaded_by : DisplayUnit → List ℕ → Result Size Refusal → LoadEnd
loaded_by u dump (Err r) = load_refused u r
loaded_by u dump (Ok s) =
    cond (eqb (length dump) (size_of s))
    (cond (all_proper dump) (load_end (fresh_loaded (length u.words) s dump) LoadValues.loaded) (load_refused u UnusedBit))
    (load_refused u WrongCount)

unfoldable pub unit_load : DisplayUnit → ℕ → List ℕ → LoadEnd
unit_load u size dump = loaded_by u dump (sized_of size)
