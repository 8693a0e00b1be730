use Rattle.std.proofs.Common.{ℕ, ◌<◌}
use Rattle.bridge_movement.specs.Refused.{IsFaultlessAt}
use Rattle.bridge_movement.proofs.checks.first_fault.Given as goal

abbrev pub invariant-loop-k : goal.invariant-loop-k
invariant-loop-k l = (k : ℕ) → k < l.k → IsFaultlessAt l.shape l.rows k
