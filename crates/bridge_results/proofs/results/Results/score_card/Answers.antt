use Rattle.std.proofs.Common.{◌≤◌, List, length, sym, ◌∙◌, subst}
use Rattle.bridge_results.specs.declared.play.TablePlay.{TablePlay}
use Rattle.bridge_results.specs.ScoreCard.{card_lines}
use Rattle.bridge_results.proofs.Cards.{few_lines}
use Rattle.bridge_results.proofs.results.Results.score_card.Goals as goal

pub card_lines-requires-clause-few : goal.card_lines-requires-clause-few
card_lines-requires-clause-few c =
    let scoring = c.fields.result.now.scoring in
    let games = c.deref.result.now in
    subst (λ (plays : List TablePlay). length (card_lines scoring games plays c.args.pair) ≤ 36) (sym (c.deref-2.ensures.0 ∙ c.self.invariant.plays_are))
    (few_lines c.self.inside.session.now scoring games c.args.pair c.self.invariant.session)
