use Rattle.std.proofs.Common.{map}
use Rattle.event_results.specs.Kept.{AreRankingsOf}
use Rattle.event_results.proofs.rankings.by_section.Given as goal

abbrev pub invariant-loop-index : goal.invariant-loop-index
invariant-loop-index l = AreRankingsOf l.event l.field l.index (map (λ ranking. ranking.items) l.lists.items)
