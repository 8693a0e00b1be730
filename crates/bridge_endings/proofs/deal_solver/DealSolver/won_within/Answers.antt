use Rattle.bridge_endings.proofs.Owners.{deal_dealt_out}
use Rattle.bridge_endings.proofs.deal_solver.DealSolver.won_within.Goals as goal

pub tricks_won-requires-clause-dealt : goal.tricks_won-requires-clause-dealt
tricks_won-requires-clause-dealt c = deal_dealt_out c.self.inside.hands c.self.invariant.deal
