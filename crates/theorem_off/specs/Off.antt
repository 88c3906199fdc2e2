-- Increments that leave the screen (02, C-19): "A point or vector drawn by such a step carries 1 in its code field, otherwise 0."
use Rattle.std.specs.Prelude.{ℕ, ◌≡◌, Bool, List, [], ◌∷◌, map, get_or}
use Rattle.std.proofs.lemmas.List.Edits.{sets}
use Rattle.ground_look.specs.declared.Look.{Look}
use Rattle.ground_look.specs.declared.Look.TheVariants.{Two, Four}
use Rattle.ground_setup.specs.Setup.{wrap_of, ahead_of}
use Rattle.ground_orders.specs.declared.Mode.TheVariants.{IncrementalPoint, IncrementalVector}
use Rattle.unit_beam.specs.Beam.{leaves_screen}
use Rattle.unit_beam.specs.declared.Beam.{Beam}
use Rattle.unit_cursor.specs.Cursor.{Buffer, cursor_here}
use Rattle.unit_items.specs.Items.{off_number, numbers_of}
use Rattle.unit_items.specs.declared.Item.{Item}
use Rattle.unit_motion.specs.Motion.{beam_after}
use Rattle.unit_motion.specs.declared.Motion.{Motion}
use Rattle.unit_motion.specs.declared.Motion.TheVariants.{To}
use Rattle.unit_motion.specs.declared.Moved.TheVariants.{Increment}
use Rattle.unit_motion.specs.declared.Trace.{Trace}
use Rattle.unit_drawing.specs.Drawing.{strokes_of, upto}
use Rattle.unit_pen.specs.Pen.{seen_of}
use Rattle.unit_head.specs.declared.State.{State}
use Rattle.unit_step.specs.Step.{look_at, motion_at, step_to, hit_by, step_from, items_drawn}
use Rattle.unit_step.specs.declared.Stepped.{Stepped}

-- an item's code field, the sixth of its eight numbers, and its numbers without it
abbrev pub code_number : Item → ℕ
code_number i = get_or (numbers_of i) 5 0

abbrev pub without_code : Item → List ℕ
without_code i = sets (numbers_of i) 5 (0 ∷ [])

-- items that all have this number in their code field
abbrev pub AllCarry : ℕ → List Item → Type 0
AllCarry n [] = Unit {0}
AllCarry n (i ∷ is) = (code_number i ≡ n) × AllCarry n is

-- what a step draws: 1 where an exact sum left the screen, otherwise 0; where coordinates are absolute, 0
pub record CarriesMark (b : Buffer) (s : State) (sight : ℕ) : Type 0 where
  pub points : (x y next : ℕ) → look_at b.words s ≡ Two x y next → s.mode ≡ IncrementalPoint → AllCarry (off_number (leaves_screen s.beam x y)) (items_drawn b s sight)
  pub vectors : (x y next : ℕ) → look_at b.words s ≡ Two x y next → s.mode ≡ IncrementalVector → AllCarry (off_number (leaves_screen s.beam x y)) (items_drawn b s sight)
  pub absolute : (x₁ x₂ y₁ y₂ next : ℕ) → look_at b.words s ≡ Four x₁ x₂ y₁ y₂ next → AllCarry 0 (items_drawn b s sight)

abbrev pub StepsTell : Type 0
StepsTell = (b : Buffer) (s : State) (sight : ℕ) → CarriesMark b s sight

-- a step over a look whose motion is m, and what m draws by the cursor bits of A and A+1
abbrev pub step_moved : State → Look → Motion → ℕ → Stepped
step_moved s l m sight = step_to s (beam_after m s.beam) (hit_by s m (seen_of s.pen sight)) l

abbrev pub drawn_by : State → Motion → Bool → Bool → ℕ → List Item
drawn_by s m c0 c1 sight = upto (seen_of s.pen sight) (strokes_of m s.beam c0 c1 s.setup.size s.address)

-- motions that differ in the mark alone leave the same state, and draw items that differ in their code field alone
pub record CodeAlone (s : State) (l : Look) (sight : ℕ) (c0 c1 : Bool) (m m' : Motion) : Type 0 where
  pub same : step_moved s l m sight ≡ step_moved s l m' sight
  pub alike : map without_code (drawn_by s m c0 c1 sight) ≡ map without_code (drawn_by s m' c0 c1 sight)

abbrev pub MarkAlone : Type 0
MarkAlone =
    (s : State) (l : Look) (sight : ℕ) (c0 c1 : Bool) (t : Trace) (to : Beam) (off off' : Bool)
    → CodeAlone s l sight c0 c1 (To (Increment off) t to) (To (Increment off') t to)

-- a step from a state is that of its own motion, and so is what it draws
pub record ByItsMotion (b : Buffer) (s : State) (sight : ℕ) : Type 0 where
  pub step : step_from b.words s sight ≡ step_moved s (look_at b.words s) (motion_at (look_at b.words s) s) sight
  pub items : items_drawn b s sight
      ≡ drawn_by s (motion_at (look_at b.words s) s) (cursor_here b (wrap_of s.setup.size s.address)) (cursor_here b (ahead_of s.setup.size s.address 1)) sight

abbrev pub StepsByMotion : Type 0
StepsByMotion = (b : Buffer) (s : State) (sight : ℕ) → ByItsMotion b s sight
