use Rattle.std.proofs.Common.{◌++◌, [], sym, ap, ◌∙◌, subst, arith}
use Rattle.std.specs.Prelude.{All, IfSome}
use Rattle.std.specs.List.{cons_option}
use Rattle.std.proofs.lemmas.List.{append-nil}
use Rattle.std.proofs.lemmas.List.Elements.{All-push}
use Rattle.bridge_ranking.specs.KeptGames.{kept_game, IsGame}
use Rattle.bridge_ranking.proofs.Gains.{filled}
use Rattle.bridge_ranking.proofs.game.games_in.Goals as goal
use Rattle.bridge_ranking.proofs.game.games_in.Goals.{in-Some, in_default}

pub loop-record-preserved : goal.loop-record-preserved
loop-record-preserved c =
    let games = c.loop-record.games.items in
    let filled_by = filled (kept_game c.args.row) c.args.table.now c.loop-record.record-index c.record-item.result games in
    elim c.match-game_in.branch [
      | in-Some w ↦ rw w.games-is (record {
        games = filled_by w.push.new.self.items c.loop-record-test.true c.record-item.is c.loop-record.invariant.games
            (w.push.ensures.items ∙ ap (λ o. games ++ cons_option o []) (sym w.in-Some.is ∙ c.game_in.ensures.game));
        each = subst (All IsGame) (sym w.push.ensures.items)
            (All-push IsGame games w.in-Some.game c.loop-record.invariant.each (subst (λ o. IfSome o IsGame) w.in-Some.is c.game_in.ensures.each));
        few = omega (arith, w.push.ensures.len, c.loop-record.invariant.few);
      })
      | in_default w ↦ rw w.games-is (record {
        games = filled_by games c.loop-record-test.true c.record-item.is c.loop-record.invariant.games
            (sym (append-nil games) ∙ ap (λ o. games ++ cons_option o []) (sym w.in_default.is ∙ c.game_in.ensures.game));
        each = c.loop-record.invariant.each;
        few = omega (arith, c.loop-record.invariant.few);
      })
    ]
