use Rattle.std.specs.Str.Lines.{lines}
use Rattle.bridge_config.specs.Parts.{view_of_heading, view_of_moved, view_of_people}
use Rattle.bridge_config.proofs.TextLaws.{people_read_spelled}
use Rattle.bridge_config.proofs.reading.read_lines.Goals as goal

pub config_of-requires : goal.config_of-requires
config_of-requires c =
    let people = rw c.shape-pairs.ensures.shape at c.in_ok-people-in-Ok.ensures in
    (people_read_spelled c.args.text.now (view_of_heading c.in-Ok.heading, lines c.in-Ok.rest.now) (view_of_moved c.in_ok-moved-in-Ok.moved) (view_of_people c.in_ok-people-in-Ok.people)
    c.requires c.in-Ok.ensures c.in_ok-moved-in-Ok.ensures.movement people).limits
