use Rattle.std.proofs.Common.{arith, refl}
use Rattle.bridge_endings.proofs.Finding.{nothing_found, nothing_table}
use Rattle.bridge_endings.proofs.table.empty_table.Goals as goal

pub of-requires : goal.of-requires
of-requires c = nothing_found c.nothing.result c.nothing.ensures

pub returns : goal.returns
returns c = nothing_table 112 (omega arith) c.of.result c.of.ensures _ refl
