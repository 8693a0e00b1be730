use Rattle.std.proofs.Common.{◌≡◌, ◌++◌, take}
use Rattle.bridge_cards.specs.declared.seat.Side.TheVariants.{NorthSouth}
use Rattle.bridge_ranking.specs.Ranking.{scores_on}
use Rattle.event_ranking.proofs.wide.push_scores.Given as goal

abbrev pub invariant-loop-game : goal.invariant-loop-game
invariant-loop-game l = l.scores.items ≡ l.fn.scores.items ++ scores_on (take l.game-index l.games) NorthSouth l.board
