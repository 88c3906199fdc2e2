-- Units for worked tables of steps: small programs, pens and sense bits, as the tables of advancing, listing and running show them.
use Rattle.std.specs.Prelude.{ℕ, Bool, true, false, List, [], ◌∷◌, replicate}
use Rattle.ground_setup.specs.Setup.{setup}
use Rattle.ground_setup.specs.declared.Size.TheVariants.{K4}
use Rattle.ground_orders.specs.declared.Mode.{Mode}
use Rattle.ground_orders.specs.declared.PenMode.TheVariants.{Normal, NoSwitch}
use Rattle.unit_beam.specs.Beam.{beam_at}
use Rattle.unit_pen.specs.Pen.{pen_of}
use Rattle.unit_pen.specs.declared.Pen.{Pen}
use Rattle.unit_cursor.specs.Cursor.{cursors}
use Rattle.unit_head.specs.Head.{DisplayUnit, unit}
use Rattle.unit_head.specs.declared.Sense.{Sense}

-- a unit of 4,096: its first words, how many cursors they have, the address, the mode, whether it runs, where the beam is, the pen, the status and
-- the sense bits
abbrev pub shows : List ℕ → ℕ → ℕ → Mode → Bool → ℕ → ℕ → Pen → ℕ → Sense → DisplayUnit
shows words count a m running x y pen status bits =
    unit words
    (record {
      state = record { setup = setup K4; address = a; mode = m; running = running; beam = beam_at x y; pen = pen };
      status = status;
      sense = bits;
      cursor = cursors count;
    })

-- programs from address 0 on: an end order; a code in no row; an end order whose second byte has bad parity; vector mode with 2A where Y was due;
-- the coordinates 1, 2, and behind them 3, 4; the increments +63, 0, and behind them +1, 0; two characters, and the same with the cursor on the
-- first
abbrev pub ending : List ℕ
ending = 0x042A ∷ 0x0681 ∷ []

abbrev pub unknown : List ℕ
unknown = 0x042A ∷ 0x0677 ∷ []

abbrev pub bad_parity : List ℕ
bad_parity = 0x042A ∷ 0x0481 ∷ []

abbrev pub cut_short : List ℕ
cut_short = 0x042A ∷ 0x0402 ∷ 0x0600 ∷ 0x0600 ∷ 0x042A ∷ 0x0681 ∷ []

abbrev pub one_two : List ℕ
one_two = 0x0600 ∷ 0x0404 ∷ 0x0600 ∷ 0x0408 ∷ []

abbrev pub two_points : List ℕ
two_points = 0x0600 ∷ 0x0404 ∷ 0x0600 ∷ 0x0408 ∷ 0x0600 ∷ 0x060C ∷ 0x0600 ∷ 0x0410 ∷ []

abbrev pub two_steps : List ℕ
two_steps = 0x047F ∷ 0x0600 ∷ 0x0603 ∷ 0x0600 ∷ []

abbrev pub letters : List ℕ
letters = 0x04C1 ∷ 0x04C2 ∷ []

abbrev pub pointed : List ℕ
pointed = 0x07C1 ∷ 0x04C2 ∷ []

-- a pen that is armed, and the same with its closure spent; a pen in no-switch mode, before a detect and after
abbrev pub armed : Pen
armed = pen_of Normal true false true false

abbrev pub spent : Pen
spent = pen_of Normal true true false false

abbrev pub no_switch : Bool → Pen
no_switch seen = pen_of NoSwitch false false false seen

-- a list of n nines
abbrev pub nines : ℕ → List ℕ
nines n = replicate n 9
