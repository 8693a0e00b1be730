use Rattle.bridge_endings.specs.SearchValue.{IsTable}
use Rattle.bridge_endings.proofs.table.look_in.Given as goal

abbrev pub invariant-loop : goal.invariant-loop
invariant-loop l = record { table : IsTable l.table }
