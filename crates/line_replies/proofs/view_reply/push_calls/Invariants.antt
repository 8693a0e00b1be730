use Rattle.std.proofs.Common.{◌≡◌, ◌+◌, ◌*◌, ◌≤◌, ◌++◌, length, map, take}
use Rattle.bridge_auction.specs.Spelling.{call_text}
use Rattle.line_replies.specs.ReplyTexts.{each_spaced}
use Rattle.line_replies.proofs.view_reply.push_calls.Given as goal

abbrev pub invariant-loop-call : goal.invariant-loop-call
invariant-loop-call l = record {
  text : l.text.bytes ≡ l.fn.text.bytes ++ each_spaced (map call_text (take l.call-index l.calls));
  room : length l.text.bytes ≤ length l.fn.text.bytes + 5 * l.call-index;
}
