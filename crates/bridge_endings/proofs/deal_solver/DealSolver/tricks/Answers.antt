use Rattle.std.proofs.Common.{refl}
use Rattle.bridge_endings.proofs.GoingOn.{told_in_the_end}
use Rattle.bridge_endings.proofs.deal_solver.DealSolver.tricks.Goals as goal

pub unwrap-won-requires : goal.unwrap-won-requires
unwrap-won-requires c = told_in_the_end _ c.won_within.result refl c.won_within.ensures.ended
