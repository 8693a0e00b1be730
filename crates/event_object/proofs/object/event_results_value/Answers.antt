use Rattle.event_object.specs.EventObject.{event_results_data}
use Rattle.event_object.proofs.object.event_results_value.Goals as goal

pub returns : goal.returns
unfolding event_results_data
returns c =
    let with_boards = c.with.ensures _ _ c.new.ensures c.boards_value.ensures in
    let with_event = c.with-2.ensures _ _ with_boards (rw c.sections-sections.ensures.sections at c.first_event_value.ensures) in
    let with_first = c.with-3.ensures _ _ with_event (rw (c.scoring_of-scoring.ensures, c.sections-sections.ensures.sections) at c.field_value.ensures) in
    let with_second = c.with-4.ensures _ _ with_first (rw (c.scoring_of-scoring.ensures, c.sections-sections.ensures.sections) at c.field_value-2.ensures) in
    let with_sections = c.with-5.ensures _ _ with_second (rw c.sections-sections.ensures.sections at c.sections_value.ensures) in
    c.build.ensures _ with_sections
