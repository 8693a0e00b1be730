use Rattle.std.proofs.Common.{arith}
use Rattle.bridge_cards.proofs.PrintLemmas.{hand_text_short}
use Rattle.line_replies.proofs.view_reply.push_dummy_line.Goals as goal

pub print_hand-requires : goal.print_hand-requires
print_hand-requires c = omega (arith, c.requires, c.push_str.ensures.len, hand_text_short c.in-Some.hand)
