use Rattle.std.proofs.lemmas.Nat.{or_lt}
use Rattle.bridge_cards.proofs.CardBits.{has_card-or}
use Rattle.bridge_cards.proofs.card_set.CardSet.union.Goals as goal

pub invariant_of-result : goal.invariant_of-result
invariant_of-result c = or_lt 52 c.self.inside.bits c.other.inside.bits c.self.invariant c.other.invariant

pub returns-clause-cards : goal.returns-clause-cards
returns-clause-cards c = λ card. let both = has_card-or c.self.inside.bits c.other.inside.bits card in cc

pub returns-clause-deck : goal.returns-clause-deck
returns-clause-deck c = or_lt 52 c.self.inside.bits c.other.inside.bits c.self.invariant c.other.invariant
