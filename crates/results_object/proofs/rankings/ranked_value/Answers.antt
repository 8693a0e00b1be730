use Rattle.results_object.proofs.rankings.ranked_value.Goals as goal

pub returns : goal.returns
returns c =
    let with_names = c.with.ensures _ _ c.new.ensures c.names_value.ensures in
    let with_pair = c.with-2.ensures _ _ with_names c.count_value.ensures in
    let with_place = c.with-3.ensures _ _ with_pair c.count_value-2.ensures in
    let with_total = c.with-4.ensures _ _ with_place c.total_value.ensures in
    c.build.ensures _ with_total
