use Rattle.bridge_results.proofs.html.card.push_card_titles.Goals as goal

pub returns-in-MatchPoints : goal.returns-in-MatchPoints
returns-in-MatchPoints c = rw c.in-MatchPoints.is c.push_titles.ensures.text

pub returns-in-Imps : goal.returns-in-Imps
returns-in-Imps c = rw c.in-Imps.is c.push_titles-in-Imps.ensures.text
