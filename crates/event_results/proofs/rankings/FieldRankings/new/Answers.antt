use Rattle.std.proofs.Common.{map, sym, subst}
use Rattle.event_results.specs.Kept.{AreRankingsOf}
use Rattle.event_results.proofs.rankings.FieldRankings.new.Goals as goal

pub returns : goal.returns
returns c = record {
  over_all = c.in_ok-over_all.ensures;
  by_section = subst (λ n. AreRankingsOf c.args.event.now c.args.field n (map (λ ranking. ranking.items) c.in_ok-by_section.by_section.items)) (sym c.requires) c.in_ok-by_section.ensures;
}
