use Rattle.std.proofs.Common.{◌≡◌, ◌≤◌, List, length, filter, sym, ap, ◌∙◌, subst}
use Rattle.bridge_ranking.specs.declared.game.Game.{Game}
use Rattle.bridge_ranking.specs.Ranking.{is_on, games_of}
use Rattle.bridge_results.specs.Comparison.{games_among}
use Rattle.bridge_results.proofs.Plays.{games_are}
use Rattle.bridge_results.proofs.Counts.{few_games_on}
use Rattle.bridge_results.proofs.results.Results.new.Goals as goal

pub invariant_of-result : goal.invariant_of-result
invariant_of-result c =
    let s = c.args.session.now in
    let is = c.parts-parts.ensures.session in
    let games : c.games_among-games.result.items ≡ games_of s =
    c.games_among-games.ensures.games ∙ ap games_among (c.deref.ensures.0 ∙ c.plays_of-plays.ensures.plays) ∙ games_are s in
    record {
      session = is;
      plays_are = c.plays_of-plays.ensures.plays;
      games_are = games;
      tricks = c.plays_of-plays.ensures.tricks;
      compared = record {
        most = c.games_among-games.ensures.most;
        few = λ board. subst (λ (gs : List Game). length (filter (is_on board) gs) ≤ 144) (sym games) (few_games_on s board is);
        each = c.games_among-games.ensures.each;
      };
    }
