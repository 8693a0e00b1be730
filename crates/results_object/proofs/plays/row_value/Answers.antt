use Rattle.results_object.proofs.plays.row_value.Goals as goal

pub returns : goal.returns
returns c =
    let with_ew = c.with.ensures _ _ c.new.ensures c.count_value.ensures in
    let with_ns = c.with-2.ensures _ _ with_ew c.count_value-2.ensures in
    let with_round = c.with-3.ensures _ _ with_ns c.count_value-3.ensures in
    let with_table = c.with-4.ensures _ _ with_round c.count_value-4.ensures in
    c.build.ensures _ with_table
