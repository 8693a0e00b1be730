use Rattle.std.proofs.Common.{◌++◌, sym, ap, ◌∙◌}
use Rattle.bridge_cards.specs.declared.scoring.Scoring.{Scoring}
use Rattle.bridge_results.specs.RankingText.{ranked_titles}
use Rattle.bridge_results.proofs.pages.ranking.push_ranked_titles.Goals as goal

pub returns-in-MatchPoints : goal.returns-in-MatchPoints
returns-in-MatchPoints c =
    c.push_titles.ensures.text ∙ ap (λ (scoring : Scoring). c.args.text.now.items ++ ranked_titles c.args.format scoring) (sym c.in-MatchPoints.is)

pub returns-in-Imps : goal.returns-in-Imps
returns-in-Imps c =
    c.push_titles-in-Imps.ensures.text ∙ ap (λ (scoring : Scoring). c.args.text.now.items ++ ranked_titles c.args.format scoring) (sym c.in-Imps.is)
