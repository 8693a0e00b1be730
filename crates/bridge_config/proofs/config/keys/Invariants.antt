use Rattle.std.proofs.Common.{◌≡◌, ◌+◌, ◌*◌, ◌∷◌, length, map, take}
use Rattle.bridge_config.specs.ConfigValue.{pair_of, key_number, keys_in}
use Rattle.bridge_config.proofs.config.keys.Given as goal

-- the director's key and those of the pairs so far
abbrev pub invariant-loop-pair : goal.invariant-loop-pair
invariant-loop-pair l = record {
  keys : l.keys.items ≡ key_number l.fields.director ∷ keys_in (map pair_of (take l.pair-index l.pairs));
  count : length l.keys.items ≡ 1 + 2 * l.pair-index;
}
