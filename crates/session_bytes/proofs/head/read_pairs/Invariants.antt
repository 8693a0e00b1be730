use Rattle.std.proofs.Common.{◌≡◌, map, length, take}
use Rattle.bridge_config.specs.ConfigValue.{pair_of}
use Rattle.session_bytes.specs.PartsRead.{pair_of_part}
use Rattle.session_bytes.specs.Reading.{items_of}
use Rattle.session_bytes.proofs.head.read_pairs.Given as goal

-- the pairs of the parts so far
abbrev pub invariant-loop-part : goal.invariant-loop-part
invariant-loop-part l = record {
  pairs : map pair_of l.pairs.items ≡ map pair_of_part (map items_of (take l.part-index l.parts));
  count : length l.pairs.items ≡ l.part-index;
}
