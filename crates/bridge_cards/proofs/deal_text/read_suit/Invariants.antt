use Rattle.std.proofs.Common.{◌≡◌, ℕ, false, take}
use Rattle.bridge_cards.specs.CardSet.{has_card, is_of_suit}
use Rattle.bridge_cards.specs.DealText.{SpellsSuit}
use Rattle.bridge_cards.proofs.deal_text.read_suit.Given as goal

abbrev pub invariant-loop-letter : goal.invariant-loop-letter
invariant-loop-letter l = record {
  spelled : SpellsSuit l.cards l.suit (take l.letter-index l.letters);
  of_suit : (card : ℕ) → is_of_suit l.suit card ≡ false → has_card l.cards card ≡ false;
}
