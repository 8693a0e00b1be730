use Rattle.std.proofs.Common.{◌≡◌, take}
use Rattle.std.specs.Prelude.{All}
use Rattle.bridge_score.specs.ScoringTable.{IsScore}
use Rattle.bridge_ranking.specs.Ranking.{scores_on}
use Rattle.bridge_results.proofs.gain.scores_on.Given as goal

abbrev pub invariant-loop-game : goal.invariant-loop-game
invariant-loop-game l = record {
  scores : l.scores.items ≡ scores_on (take l.game-index l.games) l.side l.board;
  range : All IsScore l.scores.items;
}
