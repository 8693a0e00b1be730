use Rattle.std.proofs.Common.{◌≤◌, length, subst}
use Rattle.bridge_play.specs.Play.{PlayValue, IsPlay}
use Rattle.bridge_play.proofs.BothSides.{tricks_of-both}
use Rattle.bridge_play.proofs.play.Play.tricks.Goals as goal

pub returns-clause-both : goal.returns-clause-both
returns-clause-both c =
    let few : length c.self.inside.card_play.cards ≤ 52 = rw c.cards.ensures.cards at c.cards.ensures.few in
    tricks_of-both c.args.self.now (subst (λ (p : PlayValue). length p.cards ≤ 52) c.self.view_is few)
    (subst IsPlay c.self.view_is c.self.invariant)
