use Rattle.std.proofs.Common.{rules}
use Rattle.event_ranking.specs.OneField.{HaveOneScoring, HaveOneSize}
use Rattle.event_ranking.proofs.field.first_difference.Goals as goal

pub returns : goal.returns
returns c =
    let scoring : HaveOneScoring c.args.ours.now c.args.theirs.now = search rules in
    let size : HaveOneSize c.args.ours.now c.args.theirs.now = search rules in
    (scoring, size, c.in_ok-first_other_deal.ensures)

pub returns-in_err-first_other_deal : goal.returns-in_err-first_other_deal
returns-in_err-first_other_deal c =
    let scoring : HaveOneScoring c.args.ours.now c.args.theirs.now = search rules in
    let size : HaveOneSize c.args.ours.now c.args.theirs.now = search rules in
    rw c.from_residual.ensures (record { scoring = scoring; boards = size; deals = c.in_err-first_other_deal.ensures })
