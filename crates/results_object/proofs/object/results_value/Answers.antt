use Rattle.results_object.specs.Object.{results_data}
use Rattle.results_object.proofs.object.results_value.Goals as goal

pub returns : goal.returns
unfolding results_data
returns c =
    let with_boards = c.with.ensures _ _ c.new.ensures c.boards_value.ensures in
    let with_event = c.with-2.ensures _ _ with_boards (rw c.config-config.ensures at c.event_value.ensures) in
    let with_first = c.with-3.ensures _ _ with_event (rw c.config-config.ensures at c.field_value.ensures) in
    let with_second = c.with-4.ensures _ _ with_first (rw c.config-config.ensures at c.field_value-2.ensures) in
    c.build.ensures _ with_second
