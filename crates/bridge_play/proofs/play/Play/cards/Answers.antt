use Rattle.std.proofs.Common.{List, ℕ, sym, subst}
use Rattle.bridge_play.specs.Play.{PlayValue}
use Rattle.bridge_play.specs.Legal.{IsLegal}
use Rattle.bridge_play.proofs.play.Play.cards.Goals as goal

pub returns-clause-legal : goal.returns-clause-legal
returns-clause-legal c =
    subst (λ (cards : List ℕ). IsLegal c.args.self.now.hands c.args.self.now.contract cards) (sym c.cards.ensures.cards)
    (subst (λ (play : PlayValue). IsLegal play.hands play.contract c.self.inside.card_play.cards) c.self.view_is c.self.invariant.legal)
