use Rattle.std.proofs.Common.{◌≡◌, ◌-◌, ◌≤◌, take, map}
use Rattle.std.specs.List.{range_with_len}
use Rattle.serde_json.specs.View.{view}
use Rattle.bridge_config.specs.ConfigValue.{pair_of}
use Rattle.event_object.specs.Sections.{pair_data}
use Rattle.event_object.proofs.sections.pair_values.Given as goal

abbrev pub invariant-loop-pair : goal.invariant-loop-pair
invariant-loop-pair l = record {
  made : map view l.list.items ≡ map (pair_data (map pair_of l.pairs)) (take (l.pair - 1) (range_with_len 1 l.count));
  least : 1 ≤ l.pair;
}
