use Rattle.std.proofs.Common.{arith}
use Rattle.bridge_endings.specs.PlayedCards.{seen, won_in_all}
use Rattle.bridge_endings.proofs.Moments.{won_few}
use Rattle.bridge_endings.proofs.costs.won_from.Goals as goal

pub won_in_all-requires-clause-bounded : goal.won_in_all-requires-clause-bounded
won_in_all-requires-clause-bounded c =
    c.all_bounds.ensures (won_in_all c.args.search.now.trump (seen c.in_ok-moment.moment)) (won_few c.args.search.now.trump c.in_ok-moment.moment c.in_ok-moment.ensures.moment)

pub returns-clause-few : goal.returns-clause-few
returns-clause-few c =
    omega (arith, c.won_in_all.ensures.won, won_few c.args.search.now.trump c.in_ok-moment.moment c.in_ok-moment.ensures.moment)
