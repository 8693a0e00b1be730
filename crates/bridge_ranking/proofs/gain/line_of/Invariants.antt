use Rattle.std.proofs.Common.{◌≡◌, ◌≤◌, ◌*◌, take, sum_by}
use Rattle.bridge_score.specs.Comparison.{int_sum_by}
use Rattle.bridge_ranking.specs.Ranking.{value_in, available_in}
use Rattle.bridge_ranking.specs.Gains.{IsGainWithin}
use Rattle.bridge_ranking.proofs.gain.line_of.Given as goal

abbrev pub invariant-loop-game : goal.invariant-loop-game
invariant-loop-game l = record {
  value : l.value ≡ int_sum_by (value_in l.scoring l.games l.pair) (take l.game-index l.games);
  available : l.available ≡ sum_by (available_in l.games l.pair) (take l.game-index l.games);
  within : IsGainWithin l.scoring l.value l.available;
  most : l.available ≤ 2860 * l.game-index;
}
