use Rattle.bridge_score.specs.Comparison.{imps_against}
use Rattle.bridge_score.proofs.OtherScores.{imps_against-same, imps_against-both}
use Rattle.bridge_score.proofs.Shared.{int_against_others}
use Rattle.bridge_score.proofs.laws.cross_imps_shared.Goals as goal

pub returns : goal.returns
returns c scores = int_against_others imps_against imps_against-same imps_against-both scores
