use Rattle.event_object.proofs.sections.pair_value.Goals as goal

pub returns : goal.returns
returns c =
    let with_names = c.with.ensures _ _ c.new.ensures c.names_value.ensures in
    let with_pair = c.with-2.ensures _ _ with_names c.count_value.ensures in
    c.build.ensures _ with_pair
