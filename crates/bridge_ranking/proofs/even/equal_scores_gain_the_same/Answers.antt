use Rattle.bridge_ranking.proofs.EqualGains.{equal_gains}
use Rattle.bridge_ranking.proofs.even.equal_scores_gain_the_same.Goals as goal

pub returns : goal.returns
returns c = equal_gains
