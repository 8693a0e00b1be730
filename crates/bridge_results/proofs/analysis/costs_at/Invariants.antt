use Rattle.std.proofs.Common.{◌≡◌, drop}
use Rattle.bridge_results.specs.Costs.{costs_at}
use Rattle.bridge_results.proofs.analysis.costs_at.Given as goal

-- none of those so far is of the play
abbrev pub invariant-loop-known : goal.invariant-loop-known
invariant-loop-known l = costs_at (drop l.known-index l.plays) l.play ≡ costs_at l.plays l.play
