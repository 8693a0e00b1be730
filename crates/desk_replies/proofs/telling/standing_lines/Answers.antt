use Rattle.desk_replies.specs.Told.{notice_lines, clock_lines, concerns}
use Rattle.desk_replies.proofs.Lines.{three_added}
use Rattle.desk_replies.proofs.telling.standing_lines.Goals as goal

pub returns : goal.returns
returns c =
    let desk = c.args.desk.now in
    three_added (notice_lines desk.notice) (clock_lines desk.clock) (concerns c.args.session.now desk c.args.key.0) _ _ _ _
    c.new-text.ensures c.push_notice.ensures.line c.push_clock.ensures.line c.push_concerns.ensures.lines
