use Rattle.std.proofs.Common.{◌≡◌, ◌+◌, ◌*◌, ◌≤◌, ◌++◌, length, map, take}
use Rattle.line_text.specs.Lines.{lines_text}
use Rattle.line_replies.specs.ReplyTexts.{ranked_line}
use Rattle.line_replies.proofs.ranking_reply.push_pairs.Given as goal

abbrev pub invariant-loop-ranked : goal.invariant-loop-ranked
invariant-loop-ranked l = record {
  text : l.text.bytes ≡ l.fn.text.bytes ++ lines_text (map (ranked_line l.scoring) (take l.ranked-index l.ranking));
  room : length l.text.bytes ≤ length l.fn.text.bytes + 80 * l.ranked-index;
}
