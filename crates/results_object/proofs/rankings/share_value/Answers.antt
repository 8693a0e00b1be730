use Rattle.results_object.proofs.rankings.share_value.Goals as goal

pub returns : goal.returns
returns c =
    let with_available = c.with.ensures _ _ c.new.ensures c.tenths_value.ensures in
    let with_percent = c.with-2.ensures _ _ with_available (rw c.share_percent.ensures at c.percent_value.ensures) in
    let with_points = c.with-3.ensures _ _ with_percent c.matchpoints_value.ensures in
    c.build.ensures _ with_points
