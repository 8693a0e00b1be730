use Rattle.std.proofs.Common.{◌≡◌, ◌+◌, ◌*◌, ◌≤◌, ◌++◌, length, map, take}
use Rattle.line_text.specs.Words.{spaced}
use Rattle.bridge_pbn.specs.Sections.{call_word}
use Rattle.bridge_pbn.proofs.auction_section.push_calls.Given as goal

abbrev pub invariant-loop-index : goal.invariant-loop-index
invariant-loop-index l = record {
  text : l.text.bytes ≡ l.fn.text.bytes ++ spaced (map call_word (take l.index l.calls));
  room : length l.text.bytes ≤ length l.fn.text.bytes + 5 * l.index;
}
