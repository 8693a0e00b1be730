use Rattle.std.proofs.Common.{◌*◌, []}
use Rattle.bridge_cards.specs.Seat.{clockwise_from, side_of}
use Rattle.bridge_endings.specs.Worth.{dealt, worth_with}
use Rattle.bridge_endings.specs.PlayedCards.{first_moment, after_cards, won_in_all}
use Rattle.bridge_endings.proofs.Root.{worth_le}
use Rattle.bridge_endings.proofs.Moments.{explained_if_some, won_at_first}
use Rattle.bridge_endings.proofs.deal_solver.DealSolver.costs.Goals as goal

pub returns-clause-explained : goal.returns-clause-explained
returns-clause-explained c =
    let trump = c.args.trump in
    let hands = c.self.inside.hands in
    let first = first_moment hands c.args.declarer in
    rw (← c.self.view_is) (
    explained_if_some (λ costs. costs.items) c.costs_in_all-costs.result (side_of c.args.declarer) (worth_with trump (4 * 13) (dealt hands) (clockwise_from c.args.declarer 1) [])
    (won_in_all trump first) (won_in_all trump (after_cards trump first c.args.cards.now)) (won_at_first trump hands c.args.declarer) (worth_le trump 13 (dealt hands) (clockwise_from c.args.declarer 1))
    c.costs_in_all-costs.ensures.explained c.costs_in_all-costs.ensures.few)
