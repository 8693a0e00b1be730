use Rattle.std.proofs.Common.{◌≡◌, map}
use Rattle.std.specs.Prelude.{All}
use Rattle.std.specs.List.{range_with_len}
use Rattle.bridge_score.specs.Ranking.{IsLine}
use Rattle.bridge_ranking.specs.Ranking.{line_of}
use Rattle.bridge_ranking.proofs.gain.lines_from.Given as goal

abbrev pub invariant-loop-index : goal.invariant-loop-index
invariant-loop-index l = record {
  lines : l.lines.items ≡ map (line_of l.scoring l.games) (range_with_len l.first l.index);
  within : All (IsLine l.scoring) l.lines.items;
}
