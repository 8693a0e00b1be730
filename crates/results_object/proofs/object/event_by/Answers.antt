use Rattle.results_object.proofs.object.event_by.Goals as goal

pub returns : goal.returns
returns c =
    let with_date = c.with.ensures _ _ c.new.ensures (rw c.as_str.ensures.value at c.text_value.ensures) in
    let with_event = c.with-2.ensures _ _ with_date (rw c.as_str-2.ensures.value at c.text_value-2.ensures) in
    let with_scoring = c.with-3.ensures _ _ with_event (rw c.scoring_text.ensures at c.text_value-3.ensures) in
    let with_site = c.with-4.ensures _ _ with_scoring (rw c.as_str-3.ensures.value at c.text_value-4.ensures) in
    c.build.ensures _ with_site
