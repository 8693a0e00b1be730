use Rattle.std.proofs.Common.{◌≡◌, ◌≤◌, ◌*◌, take, sum_by}
use Rattle.bridge_score.specs.Comparison.{int_sum_by}
use Rattle.bridge_ranking.specs.Ranking.{value_in, available_in}
use Rattle.bridge_ranking.specs.Gains.{IsGainWithin}
use Rattle.event_ranking.specs.Joint.{joint}
use Rattle.event_ranking.proofs.line.joint_line.Given as goal

abbrev pub invariant-loop-game : goal.invariant-loop-game
invariant-loop-game l = record {
  value : l.value ≡ int_sum_by (value_in l.scoring (joint l.wide) l.pair) (take l.game-index l.own);
  available : l.available ≡ sum_by (available_in (joint l.wide) l.pair) (take l.game-index l.own);
  within : IsGainWithin l.scoring l.value l.available;
  most : l.available ≤ 345580 * l.game-index;
}
