use Rattle.std.proofs.Common.{ap, ◌∙◌, arith}
use Rattle.bridge_cards.specs.CardSet.{card_count}
use Rattle.bridge_cards.proofs.OnesCounted.{count_ones_is}
use Rattle.bridge_cards.proofs.CardCounts.{card_count_le}
use Rattle.bridge_cards.proofs.card_set.CardSet.len.Goals as goal

pub returns-clause-count : goal.returns-clause-count
returns-clause-count c = count_ones_is c.self.inside.bits c.self.invariant ∙ ap card_count c.self.view_is

pub returns-clause-range : goal.returns-clause-range
returns-clause-range c = omega (arith, count_ones_is c.self.inside.bits c.self.invariant, card_count_le c.self.inside.bits)
