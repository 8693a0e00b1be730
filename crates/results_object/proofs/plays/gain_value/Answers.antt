use Rattle.std.proofs.Common.{◌∙◌}
use Rattle.results_object.proofs.plays.gain_value.Goals as goal

pub returns : goal.returns
returns c =
    let with_percent = c.with.ensures _ _ c.new.ensures (rw c.share_of.ensures at c.percent_value-percent.ensures) in
    let with_points = c.with-2.ensures _ _ with_percent (rw (c.as_str.ensures.value ∙ c.gain_cell.ensures.text) at c.text_value-points.ensures) in
    c.build.ensures _ with_points
