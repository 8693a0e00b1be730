use Rattle.bridge_results.proofs.Added.{card_gain, card_available}
use Rattle.bridge_results.proofs.sums.a_score_card_adds_up_to_the_ranking.Goals as goal

pub returns-clause-gain : goal.returns-clause-gain
returns-clause-gain c = card_gain

pub returns-clause-available : goal.returns-clause-available
returns-clause-available c = card_available
