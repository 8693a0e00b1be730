use Rattle.std.proofs.Common.{ap, arith, length}
use Rattle.std.proofs.lemmas.List.{length-append}
use Rattle.bridge_cards.proofs.PrintLemmas.{hand_text_short}
use Rattle.line_replies.proofs.view_reply.push_hand_line.Goals as goal

pub print_hand-requires : goal.print_hand-requires
print_hand-requires c = omega (arith, c.requires, c.push_str.ensures.len, hand_text_short c.args.hand)

pub push_str-requires-2 : goal.push_str-requires-2
push_str-requires-2 c =
    let hand = simp length-append at (ap length c.print_hand.ensures.text) in
    omega (arith, c.requires, c.push_str.ensures.len, hand, c.print_hand.ensures.short)

pub returns-clause-room : goal.returns-clause-room
returns-clause-room c =
    let hand = simp length-append at (ap length c.print_hand.ensures.text) in
    omega (arith, c.push_str.ensures.len, hand, c.print_hand.ensures.short, c.push_str-2.ensures.len)
