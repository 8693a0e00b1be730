use Rattle.std.proofs.Common.{◌≡◌, ◌≤◌, ◌-◌, ◌/◌, length, subst, arith}
use Rattle.bridge_cards.specs.declared.seat.Side.TheVariants.{EastWest}
use Rattle.bridge_play.specs.Trick.{tricks_won}
use Rattle.bridge_play.specs.CardPlay.{CardPlayValue}
use Rattle.bridge_play.proofs.BothSides.{tricks_won-both}
use Rattle.bridge_play.proofs.card_play.CardPlay.tricks_won.Goals as goal

pub overflow_sub-result : goal.overflow_sub-result
overflow_sub-result c =
    let cards = c.self.inside.cards.items in
    omega (arith, c.self.invariant.won_by, tricks_won-both c.self.inside.contract cards (length cards / 4))

pub returns-in-NorthSouth-clause-most : goal.returns-in-NorthSouth-clause-most
returns-in-NorthSouth-clause-most c =
    let cards = c.self.inside.cards.items in
    let most : c.self.inside.won ≤ length cards / 4 =
    omega (arith, c.self.invariant.won_by, tricks_won-both c.self.inside.contract cards (length cards / 4)) in
    subst (λ (p : CardPlayValue). c.self.inside.won ≤ length p.cards / 4) c.self.view_is most

pub returns-in-EastWest-clause-won : goal.returns-in-EastWest-clause-won
returns-in-EastWest-clause-won c =
    let cards = c.self.inside.cards.items in
    let rest : c.len.result / 4 - c.self.inside.won ≡ tricks_won c.self.inside.contract cards EastWest (length cards / 4) =
    omega (arith, c.self.invariant.won_by, tricks_won-both c.self.inside.contract cards (length cards / 4)) in
    rw c.in-EastWest.is
    (subst (λ (p : CardPlayValue). c.len.result / 4 - c.self.inside.won ≡ tricks_won p.contract p.cards EastWest (length p.cards / 4)) c.self.view_is rest)
