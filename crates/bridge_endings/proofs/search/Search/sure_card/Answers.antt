use Rattle.std.proofs.Common.{refl}
use Rattle.bridge_endings.proofs.SureCard.{sure_trump, sure_without_trumps}
use Rattle.bridge_endings.proofs.search.Search.sure_card.Goals as goal

pub returns-in-Some : goal.returns-in-Some
returns-in-Some c =
    sure_trump c.args.hands.now c.args.self.now.trump c.args.left c.requires c.held-hand.result c.held-partner.result c.difference.result c.args.leader c.partner.result c.partner.ensures c.held-hand.ensures c.held-partner.ensures c.difference.ensures
    (c.if-not-others_have_cards.ensures refl) c.in-Some.trump c.highest_of_suit.result c.in-Some.ensures.some c.highest_of_suit.ensures.highest c.highest_of_suit.ensures.suit

pub returns-in-None : goal.returns-in-None
returns-in-None c =
    sure_without_trumps c.args.hands.now c.args.self.now.trump c.args.left c.requires c.held-hand.result c.held-partner.result c.difference.result c.args.leader c.partner.result c.partner.ensures c.held-hand.ensures c.held-partner.ensures c.difference.ensures
    (c.if-not-others_have_cards.ensures refl) c.highest_of_any_suit.result c.highest_of_any_suit.ensures c.in-None.ensures.none
