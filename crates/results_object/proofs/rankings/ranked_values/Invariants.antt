use Rattle.std.proofs.Common.{◌≡◌, take, map}
use Rattle.serde_json.specs.View.{view}
use Rattle.bridge_config.specs.ConfigValue.{pair_of}
use Rattle.results_object.specs.Object.{ranked_data}
use Rattle.results_object.proofs.rankings.ranked_values.Given as goal

abbrev pub invariant-loop-ranked : goal.invariant-loop-ranked
invariant-loop-ranked l = map view l.list.items ≡ map (ranked_data l.scoring (map pair_of l.pairs)) (take l.ranked-index l.ranking)
