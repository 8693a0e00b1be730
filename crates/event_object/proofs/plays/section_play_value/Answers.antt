use Rattle.event_object.proofs.plays.section_play_value.Goals as goal

pub returns : goal.returns
returns c =
    let with_averages = c.with.ensures _ _ c.new.ensures c.averages_value.ensures in
    let with_ew = c.with-2.ensures _ _ with_averages (rw c.gain_of.ensures at c.gain_value-ew.ensures) in
    let with_ns = c.with-3.ensures _ _ with_ew (rw c.gain_of-2.ensures at c.gain_value-ns.ensures) in
    let with_result = c.with-4.ensures _ _ with_ns c.result_value.ensures in
    let with_row = c.with-5.ensures _ _ with_result c.row_value.ensures in
    let with_score = c.with-6.ensures _ _ with_row (rw c.line_score.ensures at c.number_value-score.ensures) in
    let with_section = c.with-7.ensures _ _ with_score c.letters_value.ensures in
    c.build.ensures _ with_section
