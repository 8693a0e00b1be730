use Rattle.std.proofs.lemmas.List.{get_or_default}
use Rattle.event_object.specs.SectionRankings.{section_ranked_data}
use Rattle.results_object.proofs.Lists.{one_more}
use Rattle.event_object.proofs.rankings.section_ranked_values.Goals as goal

pub loop-ranked-preserved : goal.loop-ranked-preserved
loop-ranked-preserved c =
    one_more (section_ranked_data c.args.scoring c.args.sections.now) c.args.ranking.now c.loop-ranked.ranked-index _ c.loop-ranked.list.items c.push.new.list.items c.in_ok-value.value
    c.loop-ranked-test.true (get_or_default c.args.ranking.now c.loop-ranked.ranked-index _ _ c.loop-ranked-test.true) c.loop-ranked.invariant c.in_ok-value.ensures c.in_ok-push.ensures.ok
