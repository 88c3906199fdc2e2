-- A unit of which the worked cases of what advancing is told as are told.
use Rattle.std.specs.Prelude.{true, []}
use Rattle.ground_orders.specs.declared.Mode.TheVariants.{Vector}
use Rattle.ground_setup.specs.Setup.{setup}
use Rattle.ground_setup.specs.declared.Size.TheVariants.{K4}
use Rattle.unit_beam.specs.Beam.{beam_at}
use Rattle.unit_pen.specs.Pen.{fresh}
use Rattle.unit_cursor.specs.Cursor.{cursors}
use Rattle.unit_head.specs.Head.{DisplayUnit, unit, no_sense}

-- a unit of 4,096 that runs at address 18, the beam at 700, 300
abbrev pub arrived : DisplayUnit
arrived =
    unit []
    (record {
      state = record { setup = setup K4; address = 18; mode = Vector; running = true; beam = beam_at 700 300; pen = fresh };
      status = 0;
      sense = no_sense;
      cursor = cursors 0;
    })
