use Rattle.std.proofs.Common.{ap, ◌∙◌}
use Rattle.bridge_cards.specs.CardSet.{has_card}
use Rattle.bridge_cards.proofs.CardSetLaws.{has_card-zero}
use Rattle.bridge_endings.proofs.TrumpsTested.{none_theirs}
use Rattle.bridge_endings.proofs.top_trumps.are_not_theirs.Goals as goal

pub returns : goal.returns
returns c = λ yes.
    none_theirs c.args.hands.now c.args.left c.args.seat c.args.cards c.held-next.result c.held-last.result c.union-theirs.result c.intersection.result
    (rw (← c.clockwise.ensures) c.held-next.ensures) (rw (← c.clockwise-2.ensures) c.held-last.ensures) c.union-theirs.ensures.cards c.intersection.ensures
    (λ card. ap (λ cards. has_card cards card) (c.is_empty.ensures.zero.0 yes) ∙ has_card-zero card)
