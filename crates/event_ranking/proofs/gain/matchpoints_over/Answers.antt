use Rattle.std.proofs.Common.{◌≡◌, sum_by, arith, rules}
use mir.Syntax.{w32}
use mir.Val.{of_z, to_z}
use Rattle.bridge_score.specs.Comparison.{matchpoints_against}
use Rattle.bridge_score.proofs.OtherScores.{matchpoints-le}
use Rattle.event_ranking.proofs.gain.matchpoints_over.Goals as goal

pub returns-clause-most : goal.returns-clause-most
returns-clause-most c =
    let own = to_z w32 (of_z w32 c.args.own) in
    let value : c.sum.result ≡ sum_by (matchpoints_against own) c.args.others.now = search rules in
    omega (arith, value, matchpoints-le own c.args.others.now)
