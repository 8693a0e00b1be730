use Rattle.std.proofs.Common.{◌++◌, [], sym, ap, ◌∙◌, subst, arith}
use Rattle.std.specs.Prelude.{All, IfSome}
use Rattle.std.specs.List.{cons_option}
use Rattle.std.proofs.lemmas.List.{append-nil}
use Rattle.std.proofs.lemmas.List.Elements.{All-push}
use Rattle.bridge_ranking.specs.KeptGames.{IsGame}
use Rattle.bridge_ranking.proofs.Gains.{filled}
use Rattle.bridge_results.specs.Comparison.{game_of}
use Rattle.bridge_results.proofs.compare.games_among.Goals as goal
use Rattle.bridge_results.proofs.compare.games_among.Goals.{in-Some, in_default}

pub loop-play-preserved : goal.loop-play-preserved
loop-play-preserved c =
    let games = c.loop-play.games.items in
    let filled_by = filled game_of c.args.plays.now c.loop-play.play-index c.play-item.result games in
    elim c.match-game_of.branch [
      | in-Some w ↦ rw w.games-is (record {
        games = filled_by w.push.new.self.items c.loop-play-test.true c.play-item.is c.loop-play.invariant.games
            (w.push.ensures.items ∙ ap (λ o. games ++ cons_option o []) (sym w.in-Some.is ∙ c.game_of.ensures.game));
        each = subst (All IsGame) (sym w.push.ensures.items)
            (All-push IsGame games w.in-Some.game c.loop-play.invariant.each (subst (λ o. IfSome o IsGame) w.in-Some.is c.game_of.ensures.each));
        few = omega (arith, w.push.ensures.len, c.loop-play.invariant.few);
      })
      | in_default w ↦ rw w.games-is (record {
        games = filled_by games c.loop-play-test.true c.play-item.is c.loop-play.invariant.games
            (sym (append-nil games) ∙ ap (λ o. games ++ cons_option o []) (sym w.in_default.is ∙ c.game_of.ensures.game));
        each = c.loop-play.invariant.each;
        few = omega (arith, c.loop-play.invariant.few);
      })
    ]
