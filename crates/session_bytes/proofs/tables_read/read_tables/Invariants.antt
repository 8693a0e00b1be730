use Rattle.std.proofs.Common.{◌≡◌, ◌-◌, ◌*◌, ◌++◌, All, length, map, take}
use Rattle.std.specs.Prelude.{flat_map}
use Rattle.session_rules.specs.State.{row_boards}
use Rattle.bridge_table.specs.Kept.{board_kept, IsTiedIn}
use Rattle.session_bytes.specs.Parts.{row_parts}
use Rattle.session_bytes.specs.Reading.{items_of, plains_of, AreRows}
use Rattle.session_bytes.proofs.tables_read.read_tables.Given as goal

abbrev pub invariant-loop-index : goal.invariant-loop-index
invariant-loop-index l = record {
  boards : map (λ table. map board_kept table.items) l.tables ≡ map (row_boards l.boards) l.rows;
  so_far : flat_map (row_parts l.format l.boards) (map plains_of (take l.index l.tables)) ++ map items_of l.rest ≡ map items_of l.parts;
  left : length l.rest ≡ (length l.rows - l.index) * l.boards;
  rows : AreRows l.format l.scoring l.deals l.now l.boards (take l.index l.rows) (map plains_of (take l.index l.tables));
  tied : All (λ table. All (IsTiedIn l.deals) table.items) (take l.index l.tables);
}
