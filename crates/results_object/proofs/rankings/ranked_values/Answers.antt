use Rattle.std.proofs.Common.{map}
use Rattle.std.proofs.lemmas.List.{get_or_default}
use Rattle.bridge_config.specs.ConfigValue.{pair_of}
use Rattle.results_object.specs.Object.{ranked_data}
use Rattle.results_object.proofs.Lists.{one_more}
use Rattle.results_object.proofs.rankings.ranked_values.Goals as goal

pub loop-ranked-preserved : goal.loop-ranked-preserved
loop-ranked-preserved c =
    one_more (ranked_data c.args.scoring (map pair_of c.args.pairs.now)) c.args.ranking.now c.loop-ranked.ranked-index _ c.loop-ranked.list.items c.push.new.list.items c.in_ok-value.value
    c.loop-ranked-test.true (get_or_default c.args.ranking.now c.loop-ranked.ranked-index _ _ c.loop-ranked-test.true) c.loop-ranked.invariant c.in_ok-value.ensures c.in_ok-push.ensures.ok
