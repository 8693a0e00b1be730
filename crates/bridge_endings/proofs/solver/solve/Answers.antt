use Rattle.bridge_endings.proofs.solver.solve.Goals as goal

pub returns-in-Some-clause-cache : goal.returns-in-Some-clause-cache
returns-in-Some-clause-cache c = rw c.in-Some.is c.solve_with.ensures.cache
