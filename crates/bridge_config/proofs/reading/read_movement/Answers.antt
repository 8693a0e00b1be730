use Rattle.bridge_config.proofs.FiveWordLaws.{shape_takes}
use Rattle.bridge_config.proofs.reading.read_movement.Goals as goal

pub read_movement_rows-requires : goal.read_movement_rows-requires
read_movement_rows-requires c =
    (shape_takes c.in_ok-line.line.number c.in_ok-line.line.text.now c.in_ok-shape.field-0 c.in_ok-shape.ensures).1
