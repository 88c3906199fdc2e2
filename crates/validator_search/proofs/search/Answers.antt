-- The answer on all walks, and the room cleared behind it.
use Rattle.std.proofs.Common.{◌≡◌, ℕ, ◌+◌, ◌-◌, ◌≤◌, ◌<◌, List, ◌++◌, length, drop, replicate, sym, ap, ◌∙◌, subst, arith, rules}
use Rattle.std.proofs.lemmas.List.{drop-drop}
use Rattle.std.proofs.lemmas.Bool.{lt-ltb, le-leb}
use Rattle.validator_walks.specs.Places.{places_of}
use Rattle.validator_store.specs.Layout.{room_of, top_of}
use Rattle.validator_store.specs.Store.{cleared}
use Rattle.validator_store.proofs.Bits.{cleared_within}
use Rattle.validator_store.proofs.Layouts.{top_room}
use Rattle.validator_search.proofs.search.Goals as goal

-- what the search leaves beyond its own part stays beyond the room
farther : (m n : ℕ) (x y : List ℕ) → m ≤ n → drop m x ≡ drop m y → drop n x ≡ drop n y
farther m n x y h e =
    let d : m + (n - m) ≡ n = omega arith in
    subst (λ (k : ℕ). drop k x ≡ drop k y) d (sym (drop-drop (n - m) m x) ∙ ap (drop (n - m)) e ∙ drop-drop (n - m) m y)

pub returns : goal.returns
returns c =
    let a = c.args in
    let room = room_of a.setup.size in
    let left = c.explore-answer.new.store in
    let same : length left ≡ length a.store.now = search rules in
    let inside : a.start < places_of a.setup.size = omega arith in
    let fits : room ≤ length a.store.now = omega arith in
    rw (lt-ltb a.start (places_of a.setup.size) inside, le-leb room (length a.store.now) fits) (
      c.explore-answer.ensures.right,
      c.clear.ensures ∙ ap (cleared left) c.room_of-room.ensures.0 ∙ cleared_within left room (omega arith)
          ∙ ap (λ (l : List ℕ). replicate room 0 ++ l) (farther (top_of a.setup.size) room left a.store.now (top_room a.setup.size) c.explore-answer.ensures.tail),
    )
