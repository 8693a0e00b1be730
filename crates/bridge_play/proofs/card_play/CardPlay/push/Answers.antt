use Rattle.std.proofs.Common.{◌∙◌}
use Rattle.bridge_cards.specs.declared.seat.Side.TheVariants.{NorthSouth}
use Rattle.bridge_play.proofs.NextTrick.{leader_before, won_before}
use Rattle.bridge_play.proofs.card_play.CardPlay.push.Goals as goal

pub next_leader-leader-requires-clause-led : goal.next_leader-leader-requires-clause-led
next_leader-leader-requires-clause-led c =
    c.self.invariant.leads
    ∙ leader_before c.self.inside.contract c.self.inside.cards.items c.as_slice-cards.result.now c.args.card
    (c.as_slice-cards.ensures.value ∙ c.push.ensures.items)

pub next_won-self-inside-requires-clause-won : goal.next_won-self-inside-requires-clause-won
next_won-self-inside-requires-clause-won c =
    c.self.invariant.won_by
    ∙ won_before c.self.inside.contract c.self.inside.cards.items c.as_slice-cards.result.now NorthSouth c.args.card
    (c.as_slice-cards.ensures.value ∙ c.push.ensures.items)
