-- Words that carry an image: those that Write Buffer leaves, and those of a loaded dump. Assumes nothing.
use Prim.Native.Nat.{ℕ, zero, suc, ◌+◌, ◌-◌, ◌≤◌, ◌<◌}
use native.Mathlib.Nat.{not-suc-le-zero, le_of_suc-le-suc}
use native.Mathlib.Omega.{arith}
use mathlib.Core.Path.{◌≡◌, refl, sym, ap, ◌∙◌}
use mathlib.Core.Bool.{true, false}
use mathlib.Core.List.{List, [], ◌∷◌, ◌++◌, map, append_assoc}
use lib.Dec.{eqb}
use lib.ListN.{length, get_or, replicate, length-replicate, length-append, length-map, get_or-replicate, get_or-append}
use borrow.Author.Tests.{eq-eqb}
use Rattle.ground_location.specs.Location.{fresh_word}
use Rattle.ground_location.proofs.Laws.{data_stored, written_stored, proper_stored, good_stored}
use Rattle.ground_setup.specs.Setup.{size_of, wrap_of, ahead_of}
use Rattle.ground_setup.specs.declared.Size.{Size}
use Rattle.ground_setup.proofs.Laws.{sized_is, positive, wrap_same, wrap_sum}
use Rattle.ground_words.proofs.Laws.{both_true}
use Rattle.ground_look.specs.Loaded.{Location, Carries}
use Rattle.unit_loading.specs.Loading.{all_proper, dump_words, loaded_by, unit_load}
use Rattle.unit_loading.proofs.Dumps.{dump_fits}
use Rattle.theorem_roundtrips.specs.RoundTrips.{Bytes}
use Rattle.theorem_roundtrips.specs.Images.{written_word, dump_of, DumpLoaded, DumpImage}
use Rattle.theorem_roundtrips.proofs.Buffers.{words_from, written_at}

-- a location with the word that a write stores of an image's byte carries it
carried : (image : List ℕ) (a : ℕ) → a < length image → Bytes image → {word : ℕ} → word ≡ written_word (get_or image a 0) → Location word (get_or image a 0)
carried image a h bytes e =
    let b = get_or image a 0 in
    let small = bytes a h in
    rw e (record { written = written_stored b false true small; good = good_stored b false true small; byte = data_stored b false true small })

-- the words that a write from address 0 on leaves carry what was written
pub written_over : (s : Size) (image words : List ℕ) → size_of s ≤ length words → Bytes image → length image ≤ size_of s → Carries (words_from s (wrap_of s 0) image words) image
written_over s image words large bytes fit a h =
    let zero_is : wrap_of s 0 ≡ 0 = wrap_same s 0 (positive s) in
    let at : ahead_of s (wrap_of s 0) a ≡ a = rw zero_is (wrap_sum s 0 a ∙ wrap_same s (0 + a) (omega arith) ∙ omega arith) in
    carried image a h bytes
    (ap (λ (k : ℕ). get_or (words_from s (wrap_of s 0) image words) k 0) (sym at) ∙ written_at s (wrap_of s 0) image words a (omega (arith, positive s)) large fit h)

dump_length : (s : Size) (image : List ℕ) → length image ≤ size_of s → length (dump_of s image) ≡ size_of s
dump_length s image fit = simp (length-append, length-map, length-replicate) (omega arith)

-- no word of it has an unused bit
fresh_proper : (n : ℕ) → all_proper (replicate n fresh_word) ≡ true
unfolding all_proper
fresh_proper zero = refl
fresh_proper (suc n) = fresh_proper n

dump_proper : (image rest : List ℕ) → Bytes image → all_proper rest ≡ true → all_proper (map written_word image ++ rest) ≡ true
unfolding all_proper
dump_proper [] rest bytes e = e
dump_proper (b ∷ image) rest bytes e =
    simp (proper_stored b false true (bytes 0 (omega arith))) (dump_proper image rest (λ i h. bytes (suc i) (omega arith)) e)

stored_at : (image : List ℕ) (a : ℕ) → a < length image → get_or (map written_word image) a 0 ≡ written_word (get_or image a 0)
stored_at [] a h = absurd (not-suc-le-zero h)
stored_at (b ∷ image) zero h = refl
stored_at (b ∷ image) (suc a) h = stored_at image a (le_of_suc-le-suc h)

-- fresh words behind others
pub fresh_at : (words : List ℕ) (n a : ℕ) → length words ≤ a → a < length words + n → get_or (words ++ replicate n fresh_word) a 0 ≡ fresh_word
fresh_at [] n a h l = get_or-replicate n a fresh_word 0 (omega arith)
fresh_at (w ∷ words) n zero h l = absurd (not-suc-le-zero h)
fresh_at (w ∷ words) n (suc a) h l = fresh_at words n a (le_of_suc-le-suc h) (omega arith)

-- a loaded dump of an image carries it
pub dump_image : DumpImage
dump_image m s image large bytes fit a h =
    let stored = map written_word image in
    let n = size_of s - length image in
    let l = m - length (dump_of s image) in
    let e : dump_words m (dump_of s image) ≡ stored ++ (replicate n fresh_word ++ replicate l fresh_word) =
    dump_fits m (dump_of s image) (omega (arith, dump_length s image fit)) ∙ append_assoc stored (replicate n fresh_word) (replicate l fresh_word)
    in
    carried image a h bytes
    (ap (λ (ws : List ℕ). get_or ws a 0) e
    ∙ get_or-append stored (replicate n fresh_word ++ replicate l fresh_word) 0 a (omega (arith, length-map image written_word))
    ∙ stored_at image a h)

-- the dump of an image is loaded, whatever the unit was
pub dump_loaded : DumpLoaded
unfolding unit_load
dump_loaded u s image bytes fit =
    ap (loaded_by u (dump_of s image)) (sized_is s)
    ∙ both_true (eqb (length (dump_of s image)) (size_of s)) (all_proper (dump_of s image)) _ _ _
    (eq-eqb (length (dump_of s image)) (size_of s) (dump_length s image fit))
    (dump_proper image (replicate (size_of s - length image) fresh_word) bytes (fresh_proper (size_of s - length image)))
