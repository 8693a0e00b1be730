use Rattle.std.proofs.Common.{◌≡◌, map, take}
use Rattle.bridge_cards.specs.declared.seat.Side.TheVariants.{NorthSouth}
use Rattle.bridge_ranking.specs.Ranking.{scores_on}
use Rattle.event_ranking.specs.Joint.{joint}
use Rattle.event_ranking.proofs.wide.scores_on.Given as goal

abbrev pub invariant-loop-games : goal.invariant-loop-games
invariant-loop-games l = l.scores.items ≡ scores_on (joint (map (λ games. games.items) (take l.games-index l.sections))) NorthSouth l.board
