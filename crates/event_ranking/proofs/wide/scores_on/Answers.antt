use Rattle.std.proofs.Common.{◌++◌, List, ap, ◌∙◌}
use Rattle.bridge_cards.specs.declared.seat.Side.TheVariants.{NorthSouth}
use Rattle.bridge_ranking.specs.declared.game.Game.{Game}
use Rattle.bridge_ranking.specs.Ranking.{scores_on}
use Rattle.event_ranking.proofs.Joined.{scores_more}
use Rattle.event_ranking.proofs.wide.scores_on.Goals as goal

pub loop-games-preserved : goal.loop-games-preserved
loop-games-preserved c =
    scores_more (λ games. games.items) NorthSouth c.args.board c.args.sections.now c.loop-games.games-index c.games-item.result c.loop-games.scores.items c.push_scores.new.scores.items
    c.loop-games-test.true c.games-item.is c.loop-games.invariant
    (c.in_ok-push_scores.ensures ∙ ap (λ (games : List Game). c.loop-games.scores.items ++ scores_on games NorthSouth c.args.board) c.as_slice.ensures.value)
