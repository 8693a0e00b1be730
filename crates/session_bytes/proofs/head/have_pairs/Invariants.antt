use Rattle.std.proofs.Common.{◌≡◌, map, take}
use Rattle.bridge_config.specs.ConfigValue.{pair_of}
use Rattle.session_bytes.specs.Parts.{pair_part}
use Rattle.session_bytes.specs.Reading.{items_of}
use Rattle.session_bytes.proofs.head.have_pairs.Given as goal

-- the parts so far are those of the pairs
abbrev pub invariant-loop-index : goal.invariant-loop-index
invariant-loop-index l = map (λ pair. pair_part (pair_of pair)) (take l.index l.pairs) ≡ take l.index (map items_of l.parts)
