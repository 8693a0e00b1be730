use Rattle.bridge_results.specs.Diagram.{sides_row, sides_text}
use Rattle.bridge_results.proofs.FourSuits.{four_rows}
use Rattle.bridge_results.proofs.pages.diagram.push_sides.Goals as goal

pub returns-clause-text : goal.returns-clause-text
unfolding sides_text
returns-clause-text c =
    four_rows (sides_row c.args.format c.args.west c.args.east) _ _ _ _ _ c.push_sides_row.ensures.text c.push_sides_row-2.ensures.text
    c.push_sides_row-3.ensures.text c.push_sides_row-4.ensures.text
