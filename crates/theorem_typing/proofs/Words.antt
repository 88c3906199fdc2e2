-- What the words of a key's two acts, a move and a store, hold at each location. Assumes nothing.
use Prim.Native.Nat.{ℕ}
use mathlib.Core.Path.{◌≡◌, ◌∙◌}
use mathlib.Core.Logic.{◌≢◌}
use mathlib.Core.Bool.{true, false}
use lib.ListN.{get_or}
use lib.Seq.{get_or-set_other}
use Rattle.ground_location.specs.Location.{word_of}
use Rattle.ground_setup.specs.Setup.{wrap_of}
use Rattle.ground_setup.specs.declared.Size.{Size}
use Rattle.ground_words.proofs.Laws.{stored_location}
use Rattle.unit_cursor.specs.Cursor.{Buffer, stored, other_of, set_here, cleared_here}
use Rattle.unit_cursor.proofs.Alike.{Alike, alike_then, cleared_alike, cleared_others, set_alike, set_others}
use Rattle.typing_keys.specs.Keys.{cursor_moved, character_stored}

module _ (s : Size) (at to : ℕ) (b : Buffer) (k : ℕ) where
  -- a move leaves data, "written", good parity and unused bits as they were
  pub moved_alike : Alike (get_or b.words k 0) (get_or (cursor_moved s at to b).words k 0)
  unfolding cursor_moved
  moved_alike =
      let cleared = cleared_here (wrap_of s at) b in
      alike_then (get_or b.words k 0) (get_or cleared.words k 0) (get_or (set_here (wrap_of s to) cleared).words k 0)
      (cleared_alike b k (wrap_of s at)) (set_alike (wrap_of s to) cleared k)

  -- and every location but the two ends and the other one of the pair
  pub moved_others : k ≢ wrap_of s at → k ≢ wrap_of s to → k ≢ other_of (wrap_of s to) → get_or (cursor_moved s at to b).words k 0 ≡ get_or b.words k 0
  unfolding cursor_moved
  moved_others m n o = set_others (wrap_of s to) (cleared_here (wrap_of s at) b) k n o ∙ cleared_others b k (wrap_of s at) m

  module _ (code : ℕ) where
    -- a store leaves what a cursor's going leaves, and at the cursor's location the code
    pub stored_each : (P : ℕ → Type 0) → ((w v : ℕ) → Alike w v → P w → P v) → P (get_or b.words k 0) → (k ≡ wrap_of s at → P (word_of code false true)) → P (get_or (character_stored s at code to b).words k 0)
    unfolding character_stored
    stored_each P keeps before put =
        let put_in = stored (wrap_of s at) (word_of code false true) b in
        keeps (get_or put_in.words k 0) (get_or (set_here (wrap_of s to) put_in).words k 0) (set_alike (wrap_of s to) put_in k)
        (stored_location P b.words (wrap_of s at) (word_of code false true) k before put)

    pub stored_others : k ≢ wrap_of s at → k ≢ wrap_of s to → k ≢ other_of (wrap_of s to) → get_or (character_stored s at code to b).words k 0 ≡ get_or b.words k 0
    unfolding character_stored
    stored_others m n o =
        set_others (wrap_of s to) (stored (wrap_of s at) (word_of code false true) b) k n o
        ∙ get_or-set_other b.words (wrap_of s at) k (word_of code false true) 0 m
