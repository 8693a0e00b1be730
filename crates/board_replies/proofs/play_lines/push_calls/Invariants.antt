use Rattle.std.proofs.Common.{◌≡◌, ◌++◌, map, take}
use Rattle.bridge_auction.specs.Spelling.{call_text}
use Rattle.line_replies.specs.ReplyTexts.{each_spaced}
use Rattle.board_replies.proofs.play_lines.push_calls.Given as goal

abbrev pub invariant-loop-call : goal.invariant-loop-call
invariant-loop-call l = l.text.items ≡ l.fn.text.items ++ each_spaced (map call_text (take l.call-index l.calls))
