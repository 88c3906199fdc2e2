-- No answer has more than 487,600 bytes: a run's line and the lines of its items, 4,096 of them at most, each of 119 bytes at most.
use Rattle.std.specs.Prelude.{Err, Ok, Result}
use Rattle.ground_refusals.specs.declared.Refusal.{Refusal}
use Prim.Native.Nat.{ℕ, suc, ◌+◌, ◌*◌, ◌/◌, ◌≤◌, min}
use mathlib.Core.Path.{◌≡◌, refl}
use mathlib.Core.Bool.{Bool, true, false, cond}
use mathlib.Core.List.{List, [], ◌∷◌, ◌++◌}
use native.Mathlib.Omega.{arith}
use lib.ListN.{length, get_or, replicate, length-append, length-replicate}
use lib.Dec.{eqb, leb, ltb}
use borrow.Author.Tests.{leb-true, ltb-false}
use Rattle.text_put.specs.Text.{spelled, hex_byte, hex_word}
use Rattle.text_put.proofs.Digits.{length_decimal}
use Rattle.ground_words.proofs.Laws.{either_way}
use Rattle.ground_orders.specs.declared.Mode.{Mode}
use Rattle.ground_orders.specs.declared.Mode.TheVariants as mode
use Rattle.ground_orders.specs.declared.PenMode.{PenMode}
use Rattle.ground_orders.specs.declared.PenMode.TheVariants as pen
use Rattle.ground_refusals.specs.Refusals.{refusal_number}
use Rattle.ground_setup.specs.Setup.{size_of, wrap_of, ahead_of, sized_of}
use Rattle.ground_setup.specs.declared.Size.{Size}
use Rattle.ground_setup.specs.declared.Size.TheVariants.{K4, K8}
use Rattle.unit_buffer.specs.declared.Read.{Read}
use Rattle.unit_buffer.specs.Buffer.{found_at, reads_on, read_from}
use Rattle.unit_codes.specs.Codes.{row_of, sent_by}
use Rattle.unit_codes.specs.declared.Command.{Command}
use Rattle.unit_codes.specs.declared.Command.TheVariants.{TestIo, WriteBuffer, ReadBuffer, NoOperation, Sense, ReadCursor, SetAndStop, Alarm, InsertCursor, ReadXy, RemoveCursor, SetAndStart, Invalid}
use Rattle.unit_codes.specs.declared.CommandRow.{CommandRow}
use Rattle.unit_sense.specs.Sense.{four_count}
use Rattle.unit_commands.specs.Commands.{CommandValues, CommandEnd, reset, read_by, done_of, allowed, tried_command, command_by, unit_command}
use Rattle.unit_cursor.specs.Cursor.{Buffer, any_set}
use Rattle.unit_head.specs.Head.{DisplayUnit, size_in, buffer_of}
use Rattle.unit_head.specs.declared.Head.{Head}
use Rattle.unit_loading.specs.Loading.{LoadValues, unit_load}
use Rattle.console_run.specs.Pair.{RunValues, pair_run}
use Rattle.console_run.proofs.Laws.{pair_long}
use Rattle.typing_keys.specs.Keys.{KeyValues, unit_key}
use Rattle.device_2250.specs.Device.{unit_of, device_of, any_cursor}
use Rattle.device_2250.specs.declared.Device.{Device}
use Rattle.console_phrases.proofs.Laws.{each_short}
use Rattle.console_conditions.specs.Conditions.{mode_text, pen_mode_text, state_line}
use Rattle.console_contents.specs.Contents.{bytes_text, status_line, words_line}
use Rattle.console_pictures.specs.Pictures.{point_line, vector_line, symbol_line, item_line, item_line_at, items_text}
use Rattle.console_replies.specs.Replies.{refusal_line, ran_line}
use Rattle.console_script.specs.Script.{rest_of, request_of}
use Rattle.console_script.specs.declared.Request.{Request}
use Rattle.console_script.specs.declared.Request.TheVariants as request
use Rattle.console_session.specs.Session.{Said, fresh_said, load_told, command_told, run_told, key_told, bytes_sent, dump_sent, sights_sent, said_by, said_of, Fits}
use Rattle.console_session.proofs.Fits.{request_fits}

-- what holds by a test holds of the way taken
by_test : {A : Type 0} (P : A → Type 0) (t : Bool) {a b : A} → (t ≡ true → P a) → (t ≡ false → P b) → P (cond t a b)
by_test P true p q = p refl
by_test P false p q = q refl

abbrev Short : ℕ → List ℕ → Type 0
Short most text = length text ≤ most

-- the line of an item
off_short : (code : ℕ) → Short 4 (cond (eqb code 1) (spelled " off") [])
off_short code = either_way (Short 4) (eqb code 1) {x = spelled " off"} {y = []} (omega arith) (omega arith)

point_short : (x y code a : ℕ) → Short 119 (point_line x y code a)
point_short x y code a = simp length-append (omega (arith, off_short code, length_decimal 20 x, length_decimal 20 y, length_decimal 20 a))

vector_short : (x₀ y₀ x y code a : ℕ) → Short 119 (vector_line x₀ y₀ x y code a)
vector_short x₀ y₀ x y code a =
    simp length-append
    (omega (arith, off_short code, length_decimal 20 x₀, length_decimal 20 y₀, length_decimal 20 x, length_decimal 20 y, length_decimal 20 a))

symbol_short : (word : List ℕ) (x y code size a : ℕ) → length word ≤ 10 → Short 119 (symbol_line word x y code size a)
symbol_short word x y code size a h =
    let sized = either_way (Short 6) (eqb size 1) {x = spelled " basic"} {y = spelled " large"} (omega arith) (omega arith) in
    simp length-append (omega (arith, sized, length_decimal 20 x, length_decimal 20 y, length_decimal 20 a))

item_short : (kind x₀ y₀ x y code size a : ℕ) → Short 119 (item_line kind x₀ y₀ x y code size a)
unfolding item_line
item_short kind x₀ y₀ x y code size a =
    either_way (Short 119) (eqb kind 1) (point_short x y code a)
    (either_way (Short 119) (eqb kind 2) (vector_short x₀ y₀ x y code a)
    (either_way (Short 119) (eqb kind 3) (symbol_short (spelled "character ") x y code size a (omega arith))
    (symbol_short (spelled "cursor ") x y code size a (omega arith))))

-- a command gives no more bytes than its room has
abbrev GivesAtMost : ℕ → CommandValues → Type 0
GivesAtMost most (CommandValues.ended status count) = count ≤ most
GivesAtMost most (CommandValues.refused n) = Unit {0}

abbrev Ends-within : List ℕ → CommandEnd → Type 0
Ends-within room end = GivesAtMost (length room) end.answer

read_count : (b : Buffer) (s : Size) (seek : Bool) (a n : ℕ) (room : List ℕ) → (read_from b s seek a n room).count ≤ n + length room
unfolding read_from
read_count b s seek a n [] = omega arith
read_count b s seek a n (x ∷ room) =
    let more = read_count b s seek (ahead_of s a 1) (n + 1) room in
    either_way (λ (r : Read). r.count ≤ n + suc (length room)) (reads_on (found_at b seek a) (get_or b.words a 0)) (omega arith) (omega arith)

read_gives : (u : DisplayUnit) (seek : Bool) (room : List ℕ) → Ends-within room (read_by u seek room)
read_gives u seek room = omega (arith, read_count (buffer_of u) (size_in u) seek (wrap_of (size_in u) u.head.state.address) 0 room)

four_count_lem : (room : List ℕ) → four_count room ≤ length room
four_count_lem room =
    by_test (λ (n : ℕ). n ≤ length room) (ltb (length room) 4) (λ e. omega arith) (λ e. omega (arith, ltb-false (length room) 4 e))

done_gives : (u : DisplayUnit) (k : Command) (bytes room : List ℕ) → Ends-within room (done_of u k bytes room)
done_gives u TestIo bytes room = omega arith
done_gives u WriteBuffer bytes room = omega arith
done_gives u ReadBuffer bytes room = read_gives (reset u) false room
done_gives u NoOperation bytes room = omega arith
done_gives u Sense bytes room = four_count_lem room
done_gives u ReadCursor bytes room = read_gives (reset u) (any_set u.head.cursor) room
done_gives u SetAndStop bytes room = omega arith
done_gives u Alarm bytes room = omega arith
done_gives u InsertCursor bytes room = omega arith
done_gives u ReadXy bytes room = four_count_lem room
done_gives u RemoveCursor bytes room = omega arith
done_gives u SetAndStart bytes room = omega arith
done_gives u Invalid bytes room = omega arith

command_gives : (u : DisplayUnit) (code : ℕ) (bytes room : List ℕ) → Ends-within room (unit_command u code bytes room)
unfolding unit_command tried_command
command_gives u code bytes room = by (sent_by (size_in u) this_row.takes bytes)
  where
    this_row : CommandRow
    this_row = row_of code

    by : (sent : Result (Unit {0}) Refusal) → Ends-within room (command_by u this_row bytes room sent)
    by (Err r) = tt
    by (Ok tt) =
        either_way (Ends-within room) (eqb u.head.status 0)
        (either_way (Ends-within room) (allowed this_row.running u.head.state.running) (done_gives u this_row.command bytes room) (omega arith))
        (omega arith)

-- the lines of the answers
abbrev ShortSaid : Said → Type 0
ShortSaid s = Short 487600 s.text

refusal_short : (n : ℕ) → Short 487600 (refusal_line n)
refusal_short n = simp length-append (omega (arith, length_decimal 20 n))

status_short : (status : ℕ) (room : List ℕ) (count : ℕ) → count ≤ 65535 → Short 487600 (status_line status room count)
status_short status room count h =
    let bytes = each_short (λ i. hex_byte (get_or room i 0)) 2 (λ i. omega arith) count in
    let given =
    either_way (Short 400000) (eqb count 0) {x = spelled "\n"} {y = spelled " " ++ bytes_text room count ++ spelled "\n"} (omega arith)
    (simp length-append (omega arith)) in
    simp length-append (omega arith)

size_least : (s : Size) → size_of s ≤ 8192
size_least K4 = omega arith
size_least K8 = omega arith

words_short : (words : List ℕ) (s : Size) (from count : ℕ) → Short 487600 (words_line words (size_of s) from count)
words_short words s from count =
    let text = each_short (λ i. hex_word (get_or words (from + i) 0)) 4 (λ i. omega arith) count in
    either_way (Short 487600) (eqb count 0) (omega arith)
    (by_test (Short 487600) (leb (from + count) (size_of s))
    (λ e. simp length-append (omega (arith, leb-true (from + count) (size_of s) e, size_least s)))
    (λ e. omega arith))

ran_short : (steps why items : ℕ) (list : List ℕ) → length list ≤ 32768 → Short 487600 (ran_line steps why items ++ items_text list items)
ran_short steps why items list h =
    let lines = each_short (item_line_at list) 119 (λ i. item_short _ _ _ _ _ _ _ _) (min items (length list / 8)) in
    simp length-append (omega (arith, length_decimal 20 steps, length_decimal 20 why, length_decimal 20 items))

mode_short : (m : Mode) → Short 13 (mode_text m)
mode_short mode.Idle = omega arith
mode_short mode.Point = omega arith
mode_short mode.Vector = omega arith
mode_short mode.IncrementalPoint = omega arith
mode_short mode.IncrementalVector = omega arith
mode_short mode.Basic = omega arith
mode_short mode.Large = omega arith

pen_short : (p : PenMode) → Short 13 (pen_mode_text p)
pen_short pen.Normal = omega arith
pen_short pen.Disabled = omega arith
pen_short pen.NoSwitch = omega arith

state_short : (h : Head) → Short 487600 (state_line h)
state_short h =
    let word : (t : Bool) (a b : List ℕ) → Short 14 a → Short 14 b → Short 14 (cond t a b) = λ t a b p q. either_way (Short 14) t p q in
    let runs = word h.state.running (spelled "running") (spelled "stopped") (omega arith) (omega arith) in
    let closed = word h.state.pen.closed (spelled " switch closed") (spelled " switch open") (omega arith) (omega arith) in
    let armed = word h.state.pen.armed (spelled " armed yes") (spelled " armed no") (omega arith) (omega arith) in
    simp length-append
    (omega (arith, mode_short h.state.mode, pen_short h.state.pen.mode, length_decimal 20 h.state.address, length_decimal 20 h.state.beam.x, length_decimal 20 h.state.beam.y))

-- what is said for each request
fresh_within : (d : Device) (size : Result Size Refusal) → ShortSaid (fresh_said d size)
fresh_within d (Ok s) = omega arith
fresh_within d (Err r) = refusal_short (refusal_number r)

load_within : (d : Device) (answer : LoadValues) → ShortSaid (load_told d answer)
load_within d LoadValues.loaded = omega arith
load_within d (LoadValues.refused n) = refusal_short n

command_within : (d : Device) (answer : CommandValues) (room : List ℕ) (most : ℕ) → most ≤ 65535 → GivesAtMost most answer → ShortSaid (command_told d answer room)
command_within d (CommandValues.ended status count) room most h gives = status_short status room count (omega arith)
command_within d (CommandValues.refused n) room most h gives = refusal_short n

run_within : (d : Device) (answer : RunValues) (list : List ℕ) → length list ≤ 32768 → ShortSaid (run_told d answer list)
run_within d (RunValues.ran steps why items) list h = ran_short steps why items list h
run_within d (RunValues.refused n) list h = refusal_short n

key_within : (d : Device) (answer : KeyValues) → ShortSaid (key_told d answer)
key_within d (KeyValues.refused n) = refusal_short n
key_within d KeyValues.unheard = omega arith
key_within d (KeyValues.heard stored to) = omega arith

by_within : (d : Device) (line : List ℕ) (r : Request) → Fits r → ShortSaid (said_by d line r)
by_within d line (request.Fresh size) fit = fresh_within d (sized_of size)
by_within d line (request.Load size) fit =
    let end = unit_load (unit_of d) size (dump_sent (rest_of (rest_of line))) in
    load_within (device_of end.unit) end.answer
by_within d line (request.Command code room) fit =
    let bytes : List ℕ = bytes_sent (rest_of (rest_of (rest_of line))) in
    let lent : List ℕ = replicate room 0 in
    let end = unit_command (unit_of d) code bytes lent in
    command_within (device_of end.unit) end.answer end.room (length lent)
    (omega (arith, length-replicate {A = ℕ} room 0))
    (command_gives (unit_of d) code bytes lent)
by_within d line request.Halt fit = omega arith
by_within d line request.SwitchOpen fit = omega arith
by_within d line request.SwitchClosed fit = omega arith
by_within d line (request.Run room) fit =
    let sights : List ℕ = sights_sent (rest_of (rest_of line)) in
    let lent : List ℕ = replicate (8 * room) 0 in
    let end = pair_run (unit_of d) sights lent in
    run_within (device_of end.unit) end.answer end.list
    (omega (arith, pair_long (unit_of d) sights lent, length-replicate {A = ℕ} (8 * room) 0))
by_within d line request.State fit = state_short d.head
by_within d line (request.Words from count) fit = words_short d.words d.head.state.setup.size from count
by_within d line (request.Key number) fit =
    let end = unit_key (unit_of d) number in
    key_within (device_of end.unit) end.answer
by_within d line request.Cursor fit = either_way (Short 487600) (any_cursor d) (omega arith) (omega arith)
by_within d line request.Empty fit = omega arith
by_within d line request.Error fit = omega arith

pub said_within : (d : Device) (line : List ℕ) → length (said_of d line).text ≤ 487600
unfolding said_of
said_within d line =
    either_way ShortSaid (leb (length line) 40000) (by_within d line (request_of line) (request_fits line)) (omega arith)
