use Rattle.std.proofs.Common.{arith, rules, ◌≡◌, ℕ, get_or, length}
use mathlib.Core.List.{map}
use mathlib.Core.Path.{◌∙◌, refl, ap}
use Rattle.std.specs.List.{range_with_len, filter}
use Rattle.std.proofs.lemmas.Iterator.{YieldsList-from_range, YieldsList-from_map}
use Rattle.std.proofs.lemmas.Iterator.Consumers.{YieldsList-at, YieldsList-from_filter, count_from_yields_List}
use Rattle.ground_location.specs.Location.{cursor_of}
use Rattle.unit_cursor.specs.Cursor.{cursors, cursors_in}
use Rattle.unit_cursor.proofs.Laws.{counted_is}
use Rattle.unit_cursor.proofs.Cursor.counted.Goals as goal

pub returns : goal.returns
returns c =
    let n = c.size_of.result in
    let word : ℕ → ℕ = λ i. get_or c.args.words.now i 0 in
    let found : c.count-count.result ≡ length (filter cursor_of (map word (range_with_len 0 n))) =
    count_from_yields_List _ c.count-count.result c.count-count.ensures.ran
    (YieldsList-from_filter _ cursor_of
    (YieldsList-at c.filter.ensures.source
    (YieldsList-from_map _ word
    (YieldsList-at c.map.ensures.source (YieldsList-from_range 0 n n refl (omega arith)))
    c.map.ensures.closure (λ x r q k. (search rules, search rules))))
    c.filter.ensures.closure (λ x b q k. (search rules, search rules)))
    in
    ap cursors (found ∙ counted_is n c.args.words.now ∙ ap (λ k. cursors_in k c.args.words.now) c.size_of.ensures.0)
