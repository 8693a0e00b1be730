use Rattle.std.proofs.Common.{◌∙◌}
use Rattle.desk_replies.specs.Told.{now_line, disk_lines, standing_lines}
use Rattle.desk_replies.proofs.Lines.{then_ok, listed_both}
use Rattle.desk_replies.proofs.telling.push_standing.Goals as goal

pub returns : goal.returns
returns c =
    let desk = c.args.desk.now in
    let session = c.args.session.now in
    then_ok c.push_str-3.result
    (listed_both (now_line c.args.at desk.ends) (disk_lines session desk c.args.key.0) (standing_lines session desk c.args.key.0) _ _ _ _ _ _ _
    c.in_ok-push_str.ensures c.in_ok-push_now.ensures c.in_ok-push_disk.ensures (c.as_str.ensures.value ∙ c.standing_lines.ensures) c.in_ok-push_str-2.ensures)
    c.push_str-3.ensures
