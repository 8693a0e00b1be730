use Rattle.std.proofs.Common.{◌-◌, ◌*◌, length}
use Rattle.bridge_endings.specs.Left.{left_to}
use Rattle.bridge_endings.specs.SearchValue.{IsAnswer}
use Rattle.bridge_endings.proofs.GoingOn.{told_in_the_end, unwrapped}
use Rattle.bridge_endings.proofs.Moments.{reached_in_all}
use Rattle.bridge_endings.proofs.costs.reaches_in_all.Goals as goal

pub unwrap-answer-requires : goal.unwrap-answer-requires
unwrap-answer-requires c = told_in_the_end c.args.search.now.limit c.reaches_at.result c.requires.endless c.reaches_at.ensures.ended

pub returns-clause-reached : goal.returns-clause-reached
returns-clause-reached c =
    let moment = c.args.moment.now in
    let trump = c.args.search.now.trump in
    let told = unwrapped (λ answer. IsAnswer trump (4 * moment.tricks - length moment.trick.cards) c.saturating_sub.result answer (left_to moment.hands moment.left) moment.trick.leader moment.trick.cards)
    c.reaches_at.result c.unwrap-answer.result c.unwrap-answer.ensures c.reaches_at.ensures.answer in
    reached_in_all trump moment c.requires.moment c.args.need c.saturating_sub.result c.saturating_sub.ensures c.unwrap-answer.result told
