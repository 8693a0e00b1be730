use Rattle.std.proofs.Common.{append_assoc}
use Rattle.line_replies.proofs.view_reply.push_dealer_line.Goals as goal

pub returns-clause-line : goal.returns-clause-line
returns-clause-line c =
    rw (c.push_str-2.ensures.bytes, c.push_word-3.ensures.text, c.vulnerability_text.ensures.text, c.push_word-2.ensures.text, c.push_word.ensures.text, c.seat_text.ensures.text, c.push_str.ensures.bytes)
    (simp append_assoc)
