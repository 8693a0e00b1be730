use Rattle.std.proofs.Common.{◌≡◌, ◌+◌, ◌-◌, ◌*◌, ◌∷◌, [], length, map}
use Rattle.std.specs.Str.Lines.{lines}
use Rattle.bridge_config.specs.ConfigValue.{pair_of, key_number}
use Rattle.bridge_config.specs.Reading.{pairs_in}
use Rattle.bridge_config.proofs.Loops.{with_front}
use Rattle.bridge_config.proofs.reading.read_pairs.Given as goal

-- the pairs so far, and those of the lines that are left, are all the pairs
abbrev pub invariant-loop-index : goal.invariant-loop-index
invariant-loop-index l = record {
  read : with_front (map pair_of l.pairs.items) (pairs_in (l.count - l.index) (l.number + l.index) (1 + l.index) (map key_number l.keys.items) (lines l.rest))
      ≡ pairs_in l.count l.number 1 (key_number l.fn.director ∷ []) (lines l.text);
  count : length l.pairs.items ≡ l.index;
  keys : length l.keys.items ≡ 1 + 2 * l.index;
}
