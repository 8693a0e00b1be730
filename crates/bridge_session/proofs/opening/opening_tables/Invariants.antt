use Rattle.std.proofs.Common.{◌≡◌, map, take}
use Rattle.bridge_session.specs.KeptSession.{new_table}
use Rattle.bridge_session.proofs.opening.opening_tables.Given as goal

abbrev pub invariant-loop-row : goal.invariant-loop-row
invariant-loop-row l = map (λ table. table.items) l.tables.items ≡ map (new_table l.boards) (take l.row-index l.rows)
