use Rattle.std.proofs.Common.{◌≡◌, ◌+◌, ◌*◌, ◌≤◌, ◌++◌, length, take}
use Rattle.page_layout.specs.Html.{html_text}
use Rattle.page_layout.proofs.escape.push_html.Given as goal

abbrev pub invariant-loop-byte : goal.invariant-loop-byte
invariant-loop-byte l = record {
  text : l.text.items ≡ l.fn.text.items ++ html_text l.content (take l.byte-index l.words);
  room : length l.text.items ≤ length l.fn.text.items + 31 * l.byte-index;
}
