use Rattle.std.proofs.Common.{◌≡◌, map}
use Rattle.std.specs.List.{range_with_len}
use Rattle.bridge_table.specs.Kept.{new_record}
use Rattle.bridge_session.proofs.opening.new_records.Given as goal

abbrev pub invariant-loop-index : goal.invariant-loop-index
invariant-loop-index l = l.table.items ≡ map new_record (range_with_len l.first l.index)
