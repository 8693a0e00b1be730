use Rattle.std.proofs.Common.{[], sym, subst}
use Rattle.event_ranking.specs.EventRanking.{IsSectionRanking}
use Rattle.event_results.proofs.results.EventResults.section_ranking.Goals as goal

pub returns : goal.returns
returns c =
    subst (IsSectionRanking c.args.self.now c.args.index c.args.field) (sym c.of_section.ensures)
    (c.rankings.ensures.by_section.each c.args.index [] c.requires)
