use Rattle.results_object.proofs.course.course_value.Goals as goal

pub returns : goal.returns
returns c =
    let with_calls = c.with.ensures _ _ c.new.ensures (rw c.calls.ensures.calls at c.calls_value.ensures) in
    let with_cards = c.with-2.ensures _ _ with_calls (rw c.cards_of.ensures at c.cards_value.ensures) in
    c.build.ensures _ with_cards
