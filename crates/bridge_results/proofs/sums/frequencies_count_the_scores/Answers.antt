use Rattle.bridge_results.proofs.Counted.{scores_counted}
use Rattle.bridge_results.proofs.EachScore.{each_score_counted}
use Rattle.bridge_results.proofs.sums.frequencies_count_the_scores.Goals as goal

pub returns-clause-all : goal.returns-clause-all
returns-clause-all c = scores_counted

pub returns-clause-each : goal.returns-clause-each
returns-clause-each c = each_score_counted
