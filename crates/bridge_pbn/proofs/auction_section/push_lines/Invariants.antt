use Rattle.std.proofs.Common.{◌≡◌, ◌+◌, ◌*◌, ◌≤◌, ◌++◌, length, map}
use Rattle.std.specs.List.{range_with_len}
use Rattle.line_text.specs.Lines.{lines_text}
use Rattle.bridge_pbn.specs.Sections.{calls_line}
use Rattle.bridge_pbn.proofs.auction_section.push_lines.Given as goal

abbrev pub invariant-loop-line : goal.invariant-loop-line
invariant-loop-line l = record {
  text : l.text.bytes ≡ l.fn.text.bytes ++ lines_text (map (calls_line l.calls) (range_with_len 0 l.line));
  room : length l.text.bytes ≤ length l.fn.text.bytes + 21 * l.line;
}
