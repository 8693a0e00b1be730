use Rattle.std.proofs.Common.{◌≡◌, ◌+◌, ◌≤◌, ◌++◌, length, drop}
use Rattle.page_layout.specs.Table.{titles_text, row_room}
use Rattle.page_layout.proofs.Cells.{texts_of}
use Rattle.page_layout.proofs.table.push_title_cells.Given as goal

abbrev pub invariant-loop-index : goal.invariant-loop-index
invariant-loop-index l = record {
  text : l.text.items ++ titles_text l.format (drop l.index l.columns) (texts_of (drop l.index l.titles)) ≡ l.fn.text.items ++ titles_text l.format l.columns (texts_of l.titles);
  room : length l.text.items + row_room (drop l.index l.columns) (texts_of (drop l.index l.titles)) ≤ length l.fn.text.items + row_room l.columns (texts_of l.titles);
}
