use Rattle.bridge_results.specs.Diagram.{middle_row, middle_text}
use Rattle.bridge_results.proofs.FourSuits.{four_rows}
use Rattle.bridge_results.proofs.pages.diagram.push_middle.Goals as goal

pub returns-clause-text : goal.returns-clause-text
unfolding middle_text
returns-clause-text c =
    four_rows (middle_row c.args.format c.args.hand) _ _ _ _ _ c.push_middle_row.ensures.text c.push_middle_row-2.ensures.text
    c.push_middle_row-3.ensures.text c.push_middle_row-4.ensures.text
