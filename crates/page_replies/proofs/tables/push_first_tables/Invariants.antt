use Rattle.std.proofs.Common.{◌≡◌, ◌+◌, ◌*◌, ◌≤◌, ◌++◌, length, map}
use Rattle.std.specs.List.{range_with_len}
use Rattle.line_text.specs.Lines.{lines_text}
use Rattle.page_replies.specs.Tables.{table_line}
use Rattle.page_replies.proofs.tables.push_first_tables.Given as goal

abbrev pub invariant-loop-index : goal.invariant-loop-index
invariant-loop-index l = record {
  text : l.text.bytes ≡ l.fn.text.bytes ++ lines_text (map (table_line l.session) (range_with_len 1 l.index));
  room : length l.text.bytes ≤ length l.fn.text.bytes + 82 * l.index;
}
