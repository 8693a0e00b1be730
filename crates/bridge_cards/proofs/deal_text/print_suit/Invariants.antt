use Rattle.std.proofs.Common.{◌≡◌, ◌++◌}
use Rattle.bridge_cards.specs.DealText.{suit_text}
use Rattle.bridge_cards.proofs.PrintLemmas.{lowest_letters}
use Rattle.bridge_cards.proofs.deal_text.print_suit.Given as goal

abbrev pub invariant-loop-index : goal.invariant-loop-index
invariant-loop-index g l =
    l.text.bytes ++ lowest_letters l.hand l.suit l.index ≡ l.fn.text.bytes ++ suit_text l.hand l.suit
