use Rattle.std.proofs.Common.{◌≡◌, map, take}
use Rattle.std.specs.List.{range_with_len}
use Rattle.bridge_ranking.specs.Ranking.{scores_on}
use Rattle.bridge_ranking.proofs.scored.scores_by_board.Given as goal

abbrev pub invariant-loop-game : goal.invariant-loop-game
invariant-loop-game l = record {
  lists : map (λ scores. scores.items) l.lists.items ≡ map (scores_on (take l.game-index l.games) l.side) (range_with_len 1 36);
}
