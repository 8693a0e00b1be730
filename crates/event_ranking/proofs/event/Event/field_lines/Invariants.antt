use Rattle.std.proofs.Common.{◌≡◌, ◌≤◌, ◌*◌, length, map, take}
use Rattle.std.specs.Prelude.{flat_map}
use Rattle.std.specs.List.{enumerate_from}
use Rattle.bridge_ranking.specs.Ranking.{games_of}
use Rattle.event_ranking.specs.Joint.{joint}
use Rattle.event_ranking.specs.EventRanking.{scoring_of, section_lines}
use Rattle.event_ranking.proofs.event.Event.field_lines.Given as goal

abbrev pub invariant-loop-index : goal.invariant-loop-index
invariant-loop-index l = record {
  lines : l.lines.items ≡ flat_map (section_lines (scoring_of l.self) (joint (map games_of l.self)) l.field) (take l.index (enumerate_from 1 l.self));
  few : length l.lines.items ≤ 24 * l.index;
}
