use Rattle.event_object.proofs.rankings.section_ranked_value.Goals as goal

pub returns : goal.returns
returns c =
    let with_names = c.with.ensures _ _ c.new.ensures c.names_on.ensures in
    let with_pair = c.with-2.ensures _ _ with_names c.count_value.ensures in
    let with_place = c.with-3.ensures _ _ with_pair c.place_value.ensures in
    let with_section = c.with-4.ensures _ _ with_place c.letters_value.ensures in
    let with_total = c.with-5.ensures _ _ with_section c.section_total_value.ensures in
    c.build.ensures _ with_total
