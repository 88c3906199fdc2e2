-- Worked cases of one look, as one table over the definitions: 01's starred cases of a step, one case for each order row and for each
-- fault, data in each mode, bad parity, and the round from the last address to 0.
use Rattle.std.specs.Prelude.{◌≡◌, refl, true, false, List, [], ◌∷◌, ◌++◌, map, ℕ, replicate}
use Rattle.std.specs.Int.Count.{ones, ones_in}
use Rattle.ground_location.specs.Location.{word_of}
use Rattle.ground_orders.specs.Orders.{table, find_in, order_of}
use Rattle.ground_setup.specs.Setup.{setup}
use Rattle.ground_setup.specs.declared.Size.{Size}
use Rattle.ground_setup.specs.declared.Size.TheVariants.{K4, K8}
use Rattle.ground_orders.specs.declared.Mode.{Mode}
use Rattle.ground_orders.specs.declared.Mode.TheVariants as mode
use Rattle.ground_orders.specs.declared.PenMode.TheVariants as pen
use Rattle.ground_groups.specs.declared.Group.{Group}
use Rattle.ground_look.specs.declared.Fault.TheVariants as fault
use Rattle.ground_look.specs.declared.Look.{Look}
use Rattle.ground_look.specs.declared.Look.TheVariants as look
use Rattle.ground_groups.specs.Groups.{image_group, words_group}
use Rattle.ground_look.specs.Look.{look_of}

-- where is looked, and what is found
pub record LookCase : Type 0 where
  pub fetch : ℕ → Group
  pub size : Size
  pub address : ℕ
  pub mode : Mode
  pub found : Look

abbrev pub in_image : List ℕ → Size → ℕ → Mode → Look → LookCase
in_image bytes s a m l = record { fetch = image_group bytes (setup s); size = s; address = a; mode = m; found = l }

abbrev pub in_words : List ℕ → Size → ℕ → Mode → Look → LookCase
in_words words s a m l = record { fetch = words_group words (setup s); size = s; address = a; mode = m; found = l }

-- a word whose parity is bad
abbrev pub spoilt : ℕ
spoilt = 0x400

abbrev pub look_cases : List LookCase
look_cases =
    -- the rows of the table, one each
    in_image (0x2A ∷ 0x00 ∷ []) K4 0 mode.Idle (look.Enter mode.Point 2)
    ∷ in_image (0x2A ∷ 0x02 ∷ []) K4 0 mode.Basic (look.Enter mode.Vector 2)
    ∷ in_image (0x2A ∷ 0x04 ∷ []) K4 0 mode.Basic (look.Enter mode.IncrementalPoint 2)
    ∷ in_image (0x2A ∷ 0x05 ∷ []) K4 0 mode.Basic (look.Enter mode.IncrementalVector 2)
    ∷ in_image (0x2A ∷ 0x40 ∷ []) K4 0 mode.Basic (look.Enter mode.Basic 2)
    ∷ in_image (0x2A ∷ 0x41 ∷ []) K4 0 mode.Basic (look.Enter mode.Large 2)
    ∷ in_image (0x2A ∷ 0x44 ∷ []) K4 0 mode.Basic (look.Enter mode.Basic 2)
    ∷ in_image (0x2A ∷ 0x45 ∷ []) K4 0 mode.Basic (look.Enter mode.Large 2)
    ∷ in_image (0x2A ∷ 0x50 ∷ []) K4 0 mode.Basic (look.Enter mode.Basic 2)
    ∷ in_image (0x2A ∷ 0x51 ∷ []) K4 0 mode.Basic (look.Enter mode.Large 2)
    ∷ in_image (0x2A ∷ 0x52 ∷ []) K4 0 mode.Basic (look.Enter mode.Basic 2)
    ∷ in_image (0x2A ∷ 0x80 ∷ []) K4 0 mode.Vector (look.Pass 2)
    ∷ in_image (0x2A ∷ 0x81 ∷ []) K4 0 mode.Vector (look.End 2)
    ∷ in_image (0x2A ∷ 0x82 ∷ []) K4 0 mode.Vector (look.Timer 2)
    ∷ in_image (0x2A ∷ 0x84 ∷ []) K4 0 mode.Vector (look.SetPen pen.Normal 2)
    ∷ in_image (0x2A ∷ 0x85 ∷ []) K4 0 mode.Vector (look.SetPen pen.Disabled 2)
    ∷ in_image (0x2A ∷ 0x86 ∷ []) K4 0 mode.Vector (look.SetPen pen.NoSwitch 2)
    ∷ in_image (0x2A ∷ 0xC0 ∷ []) K4 0 mode.Vector (look.Pass 4)
    ∷ in_image (0x2A ∷ 0xFD ∷ 0x00 ∷ 0x08 ∷ []) K4 0 mode.Idle (look.Either 8 4)
    ∷ in_image (0x2A ∷ 0xFF ∷ 0x00 ∷ 0x08 ∷ []) K4 0 mode.Idle (look.Jump 8)
    -- fault 1: nothing is written; one byte only; a target, or Y, that is not written
    ∷ in_image ([]) K4 0 mode.Idle (look.Fault fault.Unwritten)
    ∷ in_image (0x2A ∷ []) K4 0 mode.Idle (look.Fault fault.Unwritten)
    ∷ in_image (0x2A ∷ 0xFF ∷ 0x00 ∷ []) K4 0 mode.Idle (look.Fault fault.Unwritten)
    ∷ in_image (0x00 ∷ 0x00 ∷ 0x00 ∷ []) K4 0 mode.Point (look.Fault fault.Unwritten)
    -- fault 2: the code is in no row, 2A among them
    ∷ in_image (0x2A ∷ 0x01 ∷ []) K4 0 mode.Idle (look.Fault fault.NoRow)
    ∷ in_image (0x2A ∷ 0x2A ∷ []) K4 0 mode.Idle (look.Fault fault.NoRow)
    -- 01: `2A [transfer] .. 00 03`, also `.. FF FF`: fault 3; a transfer that may be left out too
    ∷ in_image (0x2A ∷ 0xFF ∷ 0x00 ∷ 0x03 ∷ []) K4 0 mode.Idle (look.Fault fault.OddTarget)
    ∷ in_image (0x2A ∷ 0xFF ∷ 0xFF ∷ 0xFF ∷ []) K4 0 mode.Idle (look.Fault fault.OddTarget)
    ∷ in_image (0x2A ∷ 0xFD ∷ 0x00 ∷ 0x03 ∷ []) K4 0 mode.Idle (look.Fault fault.OddTarget)
    -- 01: `.. 10 00`: fault 4; in 8,192 the transfer goes to 4,096
    ∷ in_image (0x2A ∷ 0xFF ∷ 0x10 ∷ 0x00 ∷ []) K4 0 mode.Idle (look.Fault fault.FarTarget)
    ∷ in_image (0x2A ∷ 0xFF ∷ 0x10 ∷ 0x00 ∷ []) K8 0 mode.Idle (look.Jump 4096)
    -- 01: `2A [vector] 00 00 2A [end]`: fault 5 at 2
    ∷ in_image (0x2A ∷ 0x02 ∷ 0x00 ∷ 0x00 ∷ 0x2A ∷ 0x81 ∷ []) K4 2 mode.Vector (look.Fault fault.OrderForY)
    ∷ in_image (0x00 ∷ 0x00 ∷ 0x2A ∷ 0x81 ∷ []) K4 0 mode.Point (look.Fault fault.OrderForY)
    -- 01: `00 2A 2A [end]`: a 2A at an odd address is data
    ∷ in_image (0x00 ∷ 0x2A ∷ 0x2A ∷ 0x81 ∷ []) K4 0 mode.Idle (look.Two 0x00 0x2A 2)
    -- data: the word in idle, incremental and character modes, two words in point and vector modes
    ∷ in_image (0x01 ∷ 0x02 ∷ 0x03 ∷ 0x04 ∷ []) K4 0 mode.Idle (look.Two 1 2 2)
    ∷ in_image (0x01 ∷ 0x02 ∷ 0x03 ∷ 0x04 ∷ []) K4 0 mode.IncrementalPoint (look.Two 1 2 2)
    ∷ in_image (0x01 ∷ 0x02 ∷ 0x03 ∷ 0x04 ∷ []) K4 0 mode.IncrementalVector (look.Two 1 2 2)
    ∷ in_image (0x01 ∷ 0x02 ∷ 0x03 ∷ 0x04 ∷ []) K4 0 mode.Basic (look.Two 1 2 2)
    ∷ in_image (0x01 ∷ 0x02 ∷ 0x03 ∷ 0x04 ∷ []) K4 0 mode.Large (look.Two 1 2 2)
    ∷ in_image (0x01 ∷ 0x02 ∷ 0x03 ∷ 0x2A ∷ []) K4 0 mode.Point (look.Four 1 2 3 0x2A 4)
    ∷ in_image (0x01 ∷ 0x02 ∷ 0x03 ∷ 0x2A ∷ []) K4 0 mode.Vector (look.Four 1 2 3 0x2A 4)
    -- 01: `2A [4-byte no-op]` does not read the two skipped bytes
    ∷ in_image (0x2A ∷ 0xC0 ∷ []) K8 0 mode.Point (look.Pass 4)
    -- bad parity is told behind fault 1, lowest place first
    ∷ in_words (spoilt ∷ 0 ∷ []) K4 0 mode.Idle (look.Fault fault.Unwritten)
    ∷ in_words (spoilt ∷ spoilt ∷ []) K4 0 mode.Idle (look.Check 0)
    ∷ in_words (word_of 0 false true ∷ spoilt ∷ []) K4 0 mode.Idle (look.Check 1)
    ∷ in_words (map (λ (b : ℕ). word_of b false true) (0x2A ∷ 0xFF ∷ 0 ∷ []) ++ (spoilt ∷ [])) K4 0 mode.Idle (look.Check 3)
    -- a no-op of four bytes reads nothing of the two that it skips
    ∷ in_words (map (λ (b : ℕ). word_of b false true) (0x2A ∷ 0xC0 ∷ []) ++ (spoilt ∷ spoilt ∷ [])) K4 0 mode.Idle (look.Pass 4)
    ∷ in_words (word_of 1 true true ∷ word_of 2 false true ∷ []) K4 0 mode.Basic (look.Two 1 2 2)
    -- the last address is followed by 0
    ∷ in_image (replicate 4096 1) K4 4094 mode.Point (look.Four 1 1 1 1 2)
    ∷ in_image (replicate 4096 1) K8 4094 mode.Point (look.Fault fault.Unwritten)
    ∷ []

-- what a case's look finds
abbrev pub finds : LookCase → Look
finds c = look_of c.fetch (setup c.size) c.address c.mode

-- each case of the table holds
pub look_cases_lem : map finds look_cases ≡ map (λ (c : LookCase). c.found) look_cases
unfolding look_of image_group words_group word_of order_of find_in table ones ones_in
look_cases_lem = refl
