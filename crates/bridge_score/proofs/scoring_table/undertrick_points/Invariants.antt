use Rattle.std.proofs.Common.{◌≡◌, ◌*◌, ◌≤◌}
use Rattle.bridge_score.specs.ScoringTable.{undertrick_points}
use Rattle.bridge_score.proofs.scoring_table.undertrick_points.Given as goal

abbrev pub invariant-loop-before : goal.invariant-loop-before
invariant-loop-before l =
    (l.points ≡ undertrick_points l.doubling l.vulnerable l.before) × (l.points ≤ 600 * l.before)
