use Rattle.std.proofs.Common.{◌≡◌, ℕ, ◌<◌, false, IsTrue, sym, ap, ◌∙◌, subst}
use Rattle.std.specs.Int.{trailing_zeros, w64}
use Rattle.bridge_cards.specs.Card.{IsCard}
use Rattle.bridge_cards.specs.CardSet.{has_card}
use Rattle.bridge_cards.proofs.CardBits.{some_at, none_at, not_none, lowest_card, lowest_none, lowest_of_none}
use Rattle.bridge_cards.proofs.card_set.CardSet.lowest.Goals as goal

pub returns-clause-card : goal.returns-clause-card
returns-clause-card c =
    some_at c.new.result (trailing_zeros w64 c.self.inside.bits) (λ card. IsCard card × IsTrue (has_card c.args.self card)) c.new.ensures.value
    (λ some.
    let inside = c.new.ensures.valid.0 some in
    (inside, subst (λ s. IsTrue (has_card s (trailing_zeros w64 c.self.inside.bits))) c.self.view_is (lowest_card c.self.inside.bits c.self.invariant inside).0))

pub returns-clause-lowest : goal.returns-clause-lowest
returns-clause-lowest c =
    some_at c.new.result (trailing_zeros w64 c.self.inside.bits) (λ card. (other : ℕ) → other < card → has_card c.args.self other ≡ false) c.new.ensures.value
    (λ some other below.
    sym (ap (λ s. has_card s other) c.self.view_is) ∙ (lowest_card c.self.inside.bits c.self.invariant (c.new.ensures.valid.0 some)).1 other below)

pub returns-clause-none : goal.returns-clause-none
returns-clause-none c = (
  λ none. sym c.self.view_is ∙ lowest_none c.self.inside.bits c.self.invariant (λ inside. not_none c.new.result none (c.new.ensures.valid.1 inside)),
  λ zero. none_at c.new.result (λ some. lowest_of_none (subst (λ n. trailing_zeros w64 n < 52) (c.self.view_is ∙ zero) (c.new.ensures.valid.0 some))),
)
