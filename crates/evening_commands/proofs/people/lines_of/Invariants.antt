use Rattle.std.proofs.Common.{◌≡◌, ◌+◌, ◌++◌, map, drop}
use Rattle.bridge_config.specs.ConfigValue.{pair_of}
use Rattle.evening_commands.specs.People.{pair_lines}
use Rattle.evening_commands.proofs.people.lines_of.Given as goal

abbrev pub invariant-loop-index : goal.invariant-loop-index
invariant-loop-index l =
    l.text.items ++ pair_lines (map pair_of l.pairs) (l.index + 1) (drop l.index l.names) ≡ pair_lines (map pair_of l.pairs) 1 l.names
