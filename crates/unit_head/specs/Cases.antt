-- Moving the pen's switch of a fresh unit.
use Rattle.std.specs.Prelude.{◌≡◌, true, false}
use Rattle.std.proofs.Math.Path.{refl}
use Rattle.ground_setup.specs.declared.Size.{Size}
use Rattle.unit_pen.specs.Pen.{switched}
use Rattle.unit_cursor.specs.declared.Cursor.{Cursor}
use Rattle.unit_head.specs.Head.{fresh_head, switched_head}

module _ (s : Size) (k : Cursor) where
  pub closed : (switched_head (fresh_head s k) true).state.pen.closed ≡ true
  unfolding switched_head switched
  closed = refl

  pub opened : switched_head (switched_head (fresh_head s k) true) false ≡ fresh_head s k
  unfolding switched_head switched
  opened = refl
