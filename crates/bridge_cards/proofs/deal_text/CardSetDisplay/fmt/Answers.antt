use Rattle.std.proofs.Common.{ap, length, arith, lit<}
use Rattle.bridge_cards.proofs.PrintLemmas.{hand_text_short}
use Rattle.bridge_cards.proofs.deal_text.CardSetDisplay.fmt.Goals as goal

pub print_hand-requires : goal.print_hand-requires
print_hand-requires g c = (lit< tt, omega (arith, hand_text_short c.args.self.now, ap length c.new-text.ensures))
