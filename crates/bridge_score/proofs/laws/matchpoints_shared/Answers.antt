use Rattle.std.proofs.Common.{length}
use Rattle.bridge_score.specs.Comparison.{matchpoints_against}
use Rattle.bridge_score.proofs.OtherScores.{matchpoints_against-same, matchpoints_against-both}
use Rattle.bridge_score.proofs.Shared.{against_others, without_own}
use Rattle.bridge_score.proofs.laws.matchpoints_shared.Goals as goal

pub returns-clause-every_board : goal.returns-clause-every_board
returns-clause-every_board c scores =
    without_own _ (length scores)
    (against_others matchpoints_against matchpoints_against-same matchpoints_against-both scores)
