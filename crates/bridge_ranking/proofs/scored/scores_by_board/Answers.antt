use Rattle.std.proofs.Common.{◌≡◌, ◌-◌, [], ℤ, List, map, take, length, get_or, pos, Some, subst, refl, sym, ap, ◌∙◌, arith}
use Rattle.std.specs.List.{range_with_len}
use Rattle.std.proofs.lemmas.Int.{to_z-of_z}
use Rattle.std.proofs.lemmas.List.{length-map, length-set}
use Rattle.std.proofs.lemmas.List.FromFn.{length-map-range_with_len, get_or-map-range_with_len}
use mir.Syntax.{w32}
use mir.Val.{to_z, of_z}
use Rattle.arrayvec.specs.ArrayVec.{ArrayVec}
use Rattle.bridge_ranking.specs.declared.game.Game.{Game}
use Rattle.bridge_ranking.specs.declared.game.PlayResult.TheVariants.{Score}
use Rattle.bridge_score.specs.ScoringTable.{IsScore}
use Rattle.bridge_ranking.specs.Ranking.{score_for, side_score, scores_on}
use Rattle.bridge_ranking.specs.KeptGames.{IsResult}
use Rattle.bridge_score.proofs.Order.{refill_all}
use Rattle.bridge_ranking.proofs.Gains.{listed, passed_over, room_for, score_fits}
use Rattle.bridge_ranking.proofs.scored.scores_by_board.Goals as goal
use Rattle.bridge_ranking.proofs.scored.scores_by_board.Goals.{in-Score, in-Averages}

abbrev items : ArrayVec ℤ → List ℤ
items scores = scores.items

-- the value that a read past the end would give
abbrev none : Game
none = record { board = 0; ns = 0; ew = 0; result = Score (pos 0) }

-- the lists that `add_score` gets
given : (c : goal.After-score_for) → map items c.deref_mut.result.now ≡ map (scores_on (take c.loop-game.game-index c.args.games.now) c.args.side) (range_with_len 1 36)
given c = ap (map items) c.deref_mut.ensures.value ∙ c.loop-game.invariant.lists

pub add_score-requires-clause-count : goal.add_score-requires-clause-count
add_score-requires-clause-count c =
    sym (length-map c.deref_mut.result.now items)
    ∙ ap length (given c)
    ∙ length-map-range_with_len (scores_on (take c.loop-game.game-index c.args.games.now) c.args.side) 1 36

pub add_score-requires-clause-room : goal.add_score-requires-clause-room
add_score-requires-clause-room c =
    let games = c.args.games.now in
    let i = c.loop-game.game-index in
    let game = get_or games i none in
    let board = game.board in
    let is_board = (c.requires.games.each i none c.loop-game-test.true).1 in
    let room = room_for c.args.side games i none _ c.loop-game-test.true (ap (side_score c.args.side) c.in-Score.is) in
    let found = ap (λ ls. get_or ls (board - 1) []) (given c)
    ∙ get_or-map-range_with_len (scores_on (take i games) c.args.side) 1 36 (board - 1) board [] (omega (arith, is_board.0, is_board.1)) (omega (arith, is_board.0)) in
    omega (arith, room, ap length found, c.requires.games.few board)

pub loop-game-preserved : goal.loop-game-preserved
loop-game-preserved c =
    let games = c.args.games.now in
    let side = c.args.side in
    let i = c.loop-game.game-index in
    let game = get_or games i none in
    let each = c.requires.games.each i none c.loop-game-test.true in
    elim c.match-game.branch [
      | in-Score w ↦
          let score : ℤ = w.in-Score.score in
          let in_range : IsScore score = subst IsResult w.in-Score.is each.0 in
          let read : to_z w32 (of_z w32 score) ≡ score = to_z-of_z w32 score (score_fits score in_range) in
          let handed = to_z-of_z w32 w.score_for.result (score_fits w.score_for.result w.score_for.ensures.range) in
          let known = ap (side_score side) w.in-Score.is
          ∙ ap (λ (z : ℤ). Some z) (sym (handed ∙ w.score_for.ensures.value ∙ ap (score_for side) read)) in
          let given = ap (map items) w.deref_mut.ensures.value ∙ c.loop-game.invariant.lists in
          let old = c.loop-game.lists.items in
          let new = w.add_score.new.lists in
          let count : length new ≡ length old =
          sym (length-map new items)
          ∙ ap length w.add_score.ensures.lists
          ∙ length-set (map items w.deref_mut.result.now) (game.board - 1) _
          ∙ length-map w.deref_mut.result.now items
          ∙ ap length w.deref_mut.ensures.value in
          rw w.lists-is (record {
            lists =
                ap (map items) (refill_all old new count)
                ∙ w.add_score.ensures.lists
                ∙ listed side games i none (map items w.deref_mut.result.now) _ c.loop-game-test.true each.1 known given;
          })
      | in-Averages w ↦
          rw w.lists-is (record {
            lists =
                c.loop-game.invariant.lists
                ∙ passed_over side games i none (map (scores_on (take i games) side) (range_with_len 1 36)) c.loop-game-test.true
                (ap (side_score side) w.in-Averages.is) refl;
          })
    ]
