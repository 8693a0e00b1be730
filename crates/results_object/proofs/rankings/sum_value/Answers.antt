use Rattle.results_object.proofs.Lists.{view-null}
use Rattle.results_object.proofs.rankings.sum_value.Goals as goal

pub returns : goal.returns
returns c =
    let with_available = c.with.ensures _ _ c.new.ensures view-null in
    let with_percent = c.with-2.ensures _ _ with_available view-null in
    let with_points = c.with-3.ensures _ _ with_percent c.imps_value.ensures in
    c.build.ensures _ with_points
