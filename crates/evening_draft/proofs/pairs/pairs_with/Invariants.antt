use Rattle.std.proofs.Common.{◌≡◌, ◌+◌, ◌*◌, ◌++◌, map, drop, length}
use Rattle.bridge_config.specs.ConfigValue.{pair_of}
use Rattle.evening_draft.specs.Draft.{drafted_pairs}
use Rattle.evening_draft.proofs.pairs.pairs_with.Given as goal

abbrev pub invariant-loop-index : goal.invariant-loop-index
invariant-loop-index l = record {
  count : length l.pairs.items ≡ l.index;
  pairs : map pair_of l.pairs.items ++ drafted_pairs (l.index + 1) (drop l.index l.names) (drop (2 * l.index) l.keys)
      ≡ drafted_pairs 1 l.names l.keys;
}
