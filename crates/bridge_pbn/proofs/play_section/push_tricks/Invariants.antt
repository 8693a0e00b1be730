use Rattle.std.proofs.Common.{◌≡◌, ◌+◌, ◌*◌, ◌≤◌, ◌++◌, length, map}
use Rattle.std.specs.List.{range_with_len}
use Rattle.line_text.specs.Lines.{lines_text}
use Rattle.bridge_pbn.specs.Sections.{trick_line}
use Rattle.bridge_pbn.proofs.play_section.push_tricks.Given as goal

abbrev pub invariant-loop-trick : goal.invariant-loop-trick
invariant-loop-trick l = record {
  text : l.text.bytes ≡ l.fn.text.bytes ++ lines_text (map (trick_line l.play.contract l.play.cards) (range_with_len 0 l.trick));
  room : length l.text.bytes ≤ length l.fn.text.bytes + 12 * l.trick;
}
