use Rattle.std.proofs.Common.{map, arith}
use Rattle.bridge_config.specs.ConfigValue.{pair_of}
use Rattle.event_object.specs.Sections.{pair_data}
use Rattle.results_object.proofs.Lists.{number_more, all_numbers}
use Rattle.event_object.proofs.sections.pair_values.Goals as goal

pub loop-pair-preserved : goal.loop-pair-preserved
loop-pair-preserved c = record {
  made =
      number_more (pair_data (map pair_of c.args.pairs.now)) c.args.count c.loop-pair.pair c.loop-pair.list.items c.push.new.list.items c.in_ok-value.value
      c.loop-pair.invariant.least (omega arith) c.loop-pair.invariant.made c.in_ok-value.ensures c.in_ok-push.ensures.ok;
  least = omega arith;
}

pub returns : goal.returns
returns c = all_numbers (pair_data (map pair_of c.args.pairs.now)) c.args.count c.loop-pair.pair c.loop-pair.list.items (omega arith) c.loop-pair.invariant.made
