use Rattle.desk_replies.specs.Told.{named_lines, kept_lines}
use Rattle.desk_replies.proofs.Lines.{then_ok, three_more}
use Rattle.desk_replies.proofs.telling.push_disks.Goals as goal

pub returns : goal.returns
returns c =
    let desk = c.args.desk.now in
    then_ok c.push_kept-2.result
    (three_more (named_lines desk.disk) (kept_lines desk.kept.first) (kept_lines desk.kept.second) _ _ _ _
    c.in_ok-push_named.ensures c.in_ok-push_kept.ensures)
    c.push_kept-2.ensures
