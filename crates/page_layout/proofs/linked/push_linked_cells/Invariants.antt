use Rattle.std.proofs.Common.{◌≡◌, ◌+◌, ◌≤◌, ◌++◌, length, drop}
use Rattle.page_layout.specs.Linked.{linked_cells, linked_row_room}
use Rattle.page_layout.proofs.Cells.{texts_of}
use Rattle.page_layout.proofs.linked.push_linked_cells.Given as goal

abbrev pub invariant-loop-index : goal.invariant-loop-index
invariant-loop-index l = record {
  text : l.text.items ++ linked_cells (drop l.index l.columns) (texts_of (drop l.index l.targets)) (texts_of (drop l.index l.cells)) ≡ l.fn.text.items ++ linked_cells l.columns (texts_of l.targets) (texts_of l.cells);
  room : length l.text.items + linked_row_room (drop l.index l.columns) (texts_of (drop l.index l.targets)) (texts_of (drop l.index l.cells)) ≤ length l.fn.text.items + linked_row_room l.columns (texts_of l.targets) (texts_of l.cells);
}
