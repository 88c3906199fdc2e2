-- Worked cases of listing, as one table over the definitions: the eight numbers of each kind of item, what just fits and what does not, and what
-- a step draws up to a detect.
use Rattle.std.specs.Prelude.{ℕ, ◌≡◌, refl, true, false, List, [], ◌∷◌, ◌++◌, map}
use Rattle.std.specs.Int.Count.{ones, ones_in}
use Rattle.ground_orders.specs.Orders.{table, find_in, order_of}
use Rattle.ground_orders.specs.declared.Mode.TheVariants.{Idle, Point, Vector, IncrementalPoint, IncrementalVector, Basic}
use Rattle.ground_groups.specs.Groups.{words_group}
use Rattle.ground_look.specs.Look.{look_of}
use Rattle.unit_beam.specs.Beam.{placed, blanked_place, increment, exact_sum, summed, stepped, leaves_screen, blanked_step, line_below, new_line, after_character}
use Rattle.unit_pen.specs.Pen.{fresh, detects, seen_of}
use Rattle.unit_items.specs.Items.{listing, listed}
use Rattle.unit_motion.specs.Codes.{draws, after_code}
use Rattle.unit_motion.specs.Motion.{two_of, four_of, motion_of}
use Rattle.unit_drawing.specs.Drawing.{shows_cursor, has_cursor, code_strokes, codes_strokes, strokes_of, upto}
use Rattle.unit_head.specs.Head.{DisplayUnit, no_sense}
use Rattle.unit_step.specs.Step.{items_drawn}
use Rattle.unit_step.specs.Samples.{shows, ending, unknown, bad_parity, cut_short, one_two, two_steps, letters, pointed, armed, no_switch, nines}
use Rattle.unit_list.specs.List.{next_items, ListValues, ListEnd, unit_list, unit_moves}
use Rattle.unit_list.specs.declared.Moves.TheVariants as moves

-- a unit, the sight, how many items the list holds, the list lent, and what is left
pub record ListCase : Type 0 where
  pub before : DisplayUnit
  pub sight : ℕ
  pub held : ℕ
  pub lent : List ℕ
  pub after : ListEnd

abbrev list_case : DisplayUnit → ℕ → ℕ → List ℕ → ListValues → List ℕ → ListCase
list_case before sight held lent answer list =
    record { before = before; sight = sight; held = held; lent = lent; after = record { answer = answer; list = list } }

-- the first character of two, its cursor, and the second
abbrev first : List ℕ
first = 3 ∷ 3 ∷ 5 ∷ 3 ∷ 5 ∷ 0xC1 ∷ 1 ∷ 0 ∷ []

abbrev under : List ℕ
under = 4 ∷ 3 ∷ 5 ∷ 3 ∷ 5 ∷ 0xC1 ∷ 1 ∷ 0 ∷ []

abbrev second : List ℕ
second = 3 ∷ 17 ∷ 5 ∷ 17 ∷ 5 ∷ 0xC2 ∷ 1 ∷ 1 ∷ []

abbrev pub list_cases : List ListCase
list_cases =
    -- the eight numbers of an item: a point, a vector, a character and a cursor; what is behind them stays
    list_case (shows one_two 0 0 Point true 3 5 fresh 0 no_sense) 0 0 (nines 9) (ListValues.holds 1) (1 ∷ 1 ∷ 2 ∷ 1 ∷ 2 ∷ 0 ∷ 0 ∷ 0 ∷ 9 ∷ [])
    ∷ list_case (shows one_two 0 0 Vector true 3 5 fresh 0 no_sense) 0 0 (nines 8) (ListValues.holds 1) (2 ∷ 3 ∷ 5 ∷ 1 ∷ 2 ∷ 0 ∷ 0 ∷ 0 ∷ [])
    ∷ list_case (shows pointed 1 0 Basic true 3 5 fresh 0 no_sense) 0 0 (nines 24) (ListValues.holds 3) (first ++ under ++ second)
    -- an increment that left the screen, in X alone; from the same place a step that stays on it
    ∷ list_case (shows two_steps 0 0 IncrementalVector true 1000 5 fresh 0 no_sense) 0 0 (nines 8) (ListValues.holds 1) (2 ∷ 1000 ∷ 5 ∷ 39 ∷ 5 ∷ 1 ∷ 0 ∷ 0 ∷ [])
    ∷ list_case (shows two_steps 0 2 IncrementalPoint true 1000 5 fresh 0 no_sense) 0 0 (nines 8) (ListValues.holds 1) (1 ∷ 1001 ∷ 5 ∷ 1001 ∷ 5 ∷ 0 ∷ 0 ∷ 2 ∷ [])
    -- behind the items that the list holds
    ∷ list_case (shows one_two 0 0 Point true 3 5 fresh 0 no_sense) 0 1 (nines 16) (ListValues.holds 2) (nines 8 ++ (1 ∷ 1 ∷ 2 ∷ 1 ∷ 2 ∷ 0 ∷ 0 ∷ 0 ∷ []))
    -- "9 items don't fit": one number too few; none of them is put. Told to hold more than there is room for, the list has none left
    ∷ list_case (shows pointed 1 0 Basic true 3 5 fresh 0 no_sense) 0 0 (nines 23) ListValues.full (nines 23)
    ∷ list_case (shows one_two 0 0 Point true 3 5 fresh 0 no_sense) 0 1 (nines 15) ListValues.full (nines 15)
    ∷ list_case (shows one_two 0 0 Point true 3 5 fresh 0 no_sense) 0 7 (nines 8) ListValues.full (nines 8)
    -- a detect "stops regeneration after that item, .. nothing later drawn": room for that item is room enough
    ∷ list_case (shows pointed 1 0 Basic true 3 5 armed 0 no_sense) 1 0 (nines 8) (ListValues.holds 1) first
    ∷ list_case (shows letters 0 0 Basic true 3 5 (no_switch false) 0 no_sense) 2 0 (nines 16) (ListValues.holds 2) (first ++ second)
    -- a sight without a pen that detects is nothing
    ∷ list_case (shows letters 0 0 Basic true 3 5 fresh 0 no_sense) 1 0 (nines 16) (ListValues.holds 2) (first ++ second)
    -- a step that is not done draws nothing, nor does an order; so it fits a full list, and one told to hold more than it has room for
    ∷ list_case (shows unknown 0 0 Basic true 3 5 fresh 0 no_sense) 0 1 (nines 8) (ListValues.holds 1) (nines 8)
    ∷ list_case (shows bad_parity 0 0 Basic true 3 5 fresh 0 no_sense) 0 0 [] (ListValues.holds 0) []
    ∷ list_case (shows cut_short 0 2 Vector true 3 5 fresh 0 no_sense) 0 0 (nines 8) (ListValues.holds 0) (nines 8)
    ∷ list_case (shows ending 0 0 Basic true 3 5 fresh 0 no_sense) 0 7 (nines 8) (ListValues.holds 7) (nines 8)
    -- a unit that does not run has no next step
    ∷ list_case (shows one_two 0 0 Point false 3 5 fresh 0 no_sense) 0 0 (nines 8) (ListValues.holds 0) (nines 8)
    -- "8 a sight above 2", whatever the unit does
    ∷ list_case (shows one_two 0 0 Point false 3 5 fresh 0 no_sense) 3 0 (nines 8) (ListValues.refused 8) (nines 8)
    ∷ []

-- each case of the table holds
pub list_cases_lem : map (λ (c : ListCase). unit_list c.before c.sight c.held c.lent) list_cases ≡ map (λ (c : ListCase). c.after) list_cases
unfolding unit_list next_items items_drawn look_of words_group order_of find_in table listing listed motion_of two_of four_of draws after_code strokes_of codes_strokes code_strokes shows_cursor has_cursor upto placed blanked_place increment exact_sum summed stepped leaves_screen blanked_step line_below new_line after_character detects seen_of ones ones_in
list_cases_lem = refl

-- what the next step moves: an absolute coordinate, an increment, whether it leaves the screen or not, codes, and nothing where it is an order, where it is not done and where there is none
pub moves_cases :
    map unit_moves
    (shows one_two 0 0 Vector true 3 5 fresh 0 no_sense
    ∷ shows two_steps 0 0 IncrementalVector true 1000 5 fresh 0 no_sense
    ∷ shows two_steps 0 0 IncrementalPoint true 3 5 fresh 0 no_sense
    ∷ shows letters 0 0 Basic true 3 5 fresh 0 no_sense
    ∷ shows letters 0 0 Idle true 3 5 fresh 0 no_sense
    ∷ shows ending 0 0 Vector true 3 5 fresh 0 no_sense
    ∷ shows unknown 0 0 Vector true 3 5 fresh 0 no_sense
    ∷ shows one_two 0 0 Vector false 3 5 fresh 0 no_sense
    ∷ [])
    ≡ moves.Absolute ∷ moves.Increment ∷ moves.Increment ∷ moves.Codes ∷ moves.Nothing ∷ moves.Nothing ∷ moves.Nothing ∷ moves.Nothing ∷ []
unfolding unit_moves look_of words_group order_of find_in table motion_of two_of four_of ones ones_in
moves_cases = refl
