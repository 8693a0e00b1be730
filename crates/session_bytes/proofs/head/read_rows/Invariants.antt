use Rattle.std.proofs.Common.{◌≡◌, map, length}
use Rattle.std.specs.List.{range_with_len}
use Rattle.session_bytes.specs.PartsRead.{row_of_part}
use Rattle.session_bytes.proofs.head.read_rows.Given as goal

-- the rows of the indexes so far
abbrev pub invariant-loop-index : goal.invariant-loop-index
invariant-loop-index l = record {
  rows : l.rows.items ≡ map (row_of_part l.shape.tables l.part) (range_with_len 0 l.index);
  count : length l.rows.items ≡ l.index;
}
