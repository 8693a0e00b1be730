use Rattle.std.proofs.Common.{◌≡◌, ◌++◌, ◌+◌, length, map, take}
use Rattle.bridge_config.specs.ConfigValue.{key_number}
use Rattle.bridge_config.proofs.config.push_keys.Given as goal

-- the keys so far were added
abbrev pub invariant-loop-key : goal.invariant-loop-key
invariant-loop-key l = record {
  keys : l.keys.items ≡ l.fn.keys.items ++ map key_number (take l.key-index l.more);
  count : length l.keys.items ≡ length l.fn.keys.items + l.key-index;
}
