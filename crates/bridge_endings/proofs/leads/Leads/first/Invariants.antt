use Rattle.std.proofs.Common.{IsTrue}
use Rattle.bridge_cards.specs.Card.{IsCard}
use Rattle.bridge_cards.specs.CardSet.{has_card}
use Rattle.bridge_endings.proofs.leads.Leads.first.Given as goal

abbrev pub invariant-loop-suit : goal.invariant-loop-suit
invariant-loop-suit l = record { card : IsCard l.first; among : IsTrue (has_card l.fn.cards l.first) }
