use Rattle.std.proofs.Common.{◌≡◌, ℕ, ◌<◌, false, IsTrue, sym, ap, ◌∙◌, subst, arith}
use Rattle.bridge_cards.specs.Card.{IsCard}
use Rattle.bridge_cards.specs.CardSet.{has_card}
use Rattle.bridge_cards.proofs.CardBits.{some_at, not_none, highest_card}
use Rattle.bridge_cards.proofs.card_set.CardSet.highest.Goals as goal

pub returns-clause-card : goal.returns-clause-card
returns-clause-card c =
    let highest = highest_card c.self.inside.bits c.ilog2.result c.self.invariant c.ilog2.ensures.power_le c.ilog2.ensures.next_power_gt in
    some_at c.new.result c.ilog2.result (λ card. IsCard card × IsTrue (has_card c.args.self card)) c.new.ensures.value
    (λ some. (highest.0, subst (λ s. IsTrue (has_card s c.ilog2.result)) c.self.view_is highest.1))

pub returns-clause-highest : goal.returns-clause-highest
returns-clause-highest c =
    let highest = highest_card c.self.inside.bits c.ilog2.result c.self.invariant c.ilog2.ensures.power_le c.ilog2.ensures.next_power_gt in
    some_at c.new.result c.ilog2.result (λ card. (other : ℕ) → card < other → has_card c.args.self other ≡ false) c.new.ensures.value
    (λ some other above. sym (ap (λ s. has_card s other) c.self.view_is) ∙ highest.2 other above)

pub returns-clause-none : goal.returns-clause-none
returns-clause-none c =
    let highest = highest_card c.self.inside.bits c.ilog2.result c.self.invariant c.ilog2.ensures.power_le c.ilog2.ensures.next_power_gt in (
      λ none. absurd (not_none c.new.result none (c.new.ensures.valid.1 highest.0)),
      λ zero. absurd (omega arith),
    )
