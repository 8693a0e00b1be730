use Rattle.std.proofs.Common.{◌≡◌, All, map, take}
use Rattle.bridge_table.specs.Kept.{plain_of, board_kept, IsTiedIn}
use Rattle.session_bytes.specs.Reading.{items_of, part_kept, AreRecords}
use Rattle.session_bytes.proofs.tables_read.read_records.Given as goal

abbrev pub invariant-loop-index : goal.invariant-loop-index
invariant-loop-index l = record {
  boards : map board_kept l.table ≡ map board_kept l.initial.table;
  so_far : map (part_kept l.format) (take l.index l.table) ≡ map items_of (take l.index l.parts);
  records : AreRecords l.format l.scoring l.deals l.now l.round (map board_kept (take l.index l.table)) (map plain_of (take l.index l.table));
  tied : All (IsTiedIn l.deals) (take l.index l.table);
}
