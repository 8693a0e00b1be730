use Rattle.std.proofs.Common.{◌≡◌, drop}
use Rattle.bridge_config.specs.Limits.{are_distinct}
use Rattle.bridge_config.proofs.limits.are_keys.Given as goal

-- whether a key stands twice is told by the keys that are left
abbrev pub invariant-loop-index : goal.invariant-loop-index
invariant-loop-index l = are_distinct l.keys ≡ are_distinct (drop l.index l.keys)
