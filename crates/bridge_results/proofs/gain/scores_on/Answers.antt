use Rattle.std.proofs.Common.{pos, length, List, Some, sym, ap, ◌∙◌, subst, arith, [], ◌∷◌, ◌++◌, ℤ}
use Rattle.std.specs.Prelude.{All, IfSome}
use Rattle.std.proofs.lemmas.Int.{to_z-of_z}
use mir.Syntax.{w32}
use Rattle.std.proofs.lemmas.List.{take_all, append-nil}
use Rattle.std.proofs.lemmas.List.Elements.{All-push}
use Rattle.bridge_score.specs.ScoringTable.{IsScore}
use Rattle.bridge_ranking.specs.declared.game.Game.{Game}
use Rattle.bridge_ranking.specs.declared.game.PlayResult.TheVariants.{Score}
use Rattle.bridge_ranking.specs.Ranking.{score_in, scores_on}
use Rattle.bridge_ranking.proofs.Gains.{scored, score_fits}
use Rattle.bridge_results.proofs.Walked.{room_left, few_scores}
use Rattle.bridge_results.proofs.gain.scores_on.Goals as goal
use Rattle.bridge_results.proofs.gain.scores_on.Goals.{in-Some, in_default}

-- the value that a read past the end would give
abbrev none : Game
none = record { board = 0; ns = 0; ew = 0; result = Score (pos 0) }

pub push-requires : goal.push-requires
push-requires c =
    let games = c.args.games.now in
    let room = room_left (score_in c.args.side c.args.board) games c.loop-game.game-index none c.in-Some.score c.loop-game-test.true (sym c.score_in.ensures.value ∙ c.in-Some.is) in
    (omega arith, omega (arith, room, ap length c.loop-game.invariant.scores, few_scores games c.args.side c.args.board, c.requires.few c.args.board))

pub loop-game-preserved : goal.loop-game-preserved
loop-game-preserved c =
    let games = c.args.games.now in
    let scores = c.loop-game.scores.items in
    elim c.match-score_in.branch [
      | in-Some w ↦
          let in_range : IsScore w.in-Some.score = subst (λ o. IfSome o IsScore) w.in-Some.is c.score_in.ensures.range in
          let items = w.push.ensures.items ∙ ap (λ (z : ℤ). scores ++ z ∷ []) (to_z-of_z w32 w.in-Some.score (score_fits w.in-Some.score in_range)) in
          rw w.scores-is (record {
            scores = scored c.args.side c.args.board games c.loop-game.game-index none (Some w.in-Some.score) scores w.push.new.self.items c.loop-game-test.true
                (sym c.score_in.ensures.value ∙ w.in-Some.is) c.loop-game.invariant.scores items;
            range = subst (All IsScore) (sym items) (All-push IsScore scores w.in-Some.score c.loop-game.invariant.range in_range);
          })
      | in_default w ↦ rw w.scores-is (record {
        scores = scored c.args.side c.args.board games c.loop-game.game-index none _ scores scores c.loop-game-test.true
            (sym c.score_in.ensures.value ∙ w.in_default.is) c.loop-game.invariant.scores (sym (append-nil scores));
        range = c.loop-game.invariant.range;
      })
    ]

pub returns-clause-most : goal.returns-clause-most
returns-clause-most c =
    let games = c.args.games.now in
    let all = ap (λ (gs : List Game). length (scores_on gs c.args.side c.args.board)) (take_all c.loop-game.game-index games (omega (arith, c.loop-game-test.false))) in
    omega (arith, ap length c.loop-game.invariant.scores, all, few_scores games c.args.side c.args.board, c.requires.few c.args.board)
