use Rattle.bridge_ranking.proofs.OneRanking.{one_ranking}
use Rattle.bridge_ranking.proofs.one_ranking.a_field_has_one_ranking.Goals as goal

pub returns : goal.returns
returns c = one_ranking
