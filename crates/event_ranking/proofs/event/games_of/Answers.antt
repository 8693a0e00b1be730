use Rattle.std.proofs.Common.{◌≡◌, ap, ◌∙◌}
use Rattle.std.proofs.lemmas.Result.{IfOk-weaker}
use Rattle.bridge_ranking.specs.Ranking.{games_of}
use Rattle.event_ranking.proofs.Games.{of_section}
use Rattle.event_ranking.proofs.event.games_of.Goals as goal

pub returns-clause-games : goal.returns-clause-games
returns-clause-games c =
    IfOk-weaker c.from_slice.result (λ v. v.items ≡ c.games.result.now) (λ v. v.items ≡ games_of c.args.session.now)
    (λ v is. is ∙ c.games.ensures ∙ ap games_of c.new-results.ensures) c.from_slice.ensures.items

pub returns-clause-section : goal.returns-clause-section
returns-clause-section c = of_section c.args.session.now c.parts-parts.ensures.session
