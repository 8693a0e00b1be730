-- What contracts see of a movement: its shape and the list of its rows.
use Rattle.std.specs.Prelude.{List}
use Rattle.bridge_movement.specs.declared.row.Row.{Row}
use Rattle.bridge_movement.specs.declared.shape.Shape.{Shape}

-- how large it is, and its rows in order
pub record MovementValue : Type 0 where
  pub shape : Shape
  pub rows : List Row
