use Rattle.bridge_endings.proofs.Finding.{table_set}
use Rattle.bridge_endings.proofs.table.begin.Goals as goal

pub returns-then-index-table : goal.returns-then-index-table
returns-then-index-table c = table_set c.args.table.now c.args.place _ c.requires.0 c.begin.ensures
