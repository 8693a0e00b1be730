use Rattle.std.proofs.Common.{◌++◌, ◌∷◌, [], ℤ, get_or, pos, sym, ap, ◌∙◌, rules}
use Rattle.std.specs.List.{cons_option}
use Rattle.std.proofs.lemmas.Int.{to_z-of_z}
use Rattle.std.proofs.lemmas.List.{append-nil, get_or_default}
use mir.Syntax.{w32}
use mir.Val.{SFits}
use Rattle.bridge_cards.specs.declared.seat.Side.TheVariants.{NorthSouth}
use Rattle.bridge_ranking.specs.declared.game.Game.{Game}
use Rattle.bridge_ranking.specs.declared.game.PlayResult.TheVariants.{Score}
use Rattle.bridge_ranking.specs.Ranking.{score_in}
use Rattle.event_ranking.proofs.Joined.{one_more}
use Rattle.event_ranking.proofs.wide.push_scores.Goals as goal
use Rattle.event_ranking.proofs.wide.push_scores.Goals.{in-Some+in_ok-push, in_default}

-- the value that a read past the end would give
abbrev none : Game
none = record { board = 0; ns = 0; ew = 0; result = Score (pos 0) }

pub loop-game-preserved : goal.loop-game-preserved
loop-game-preserved c =
    let games = c.args.games.now in
    let i = c.loop-game.game-index in
    let game = get_or games i none in
    let before = c.loop-game.scores.items in
    let at = get_or_default games i none game c.loop-game-test.true in
    let more = one_more (score_in NorthSouth c.args.board) games i game c.args.scores.now.items before in
    elim c.match-score_in.branch [
      | in-Some+in_ok-push w ↦
          let fits : SFits w32 w.in-Some.score = search rules in
          rw w.scores-is (more w.push.new.self.items c.loop-game-test.true at c.loop-game.invariant
          (w.in_ok-push.ensures.items
          ∙ ap (λ (z : ℤ). before ++ z ∷ []) (to_z-of_z w32 w.in-Some.score fits)
          ∙ ap (λ o. before ++ cons_option o []) (sym w.in-Some.is ∙ c.score_in.ensures)))
      | in_default w ↦
          rw w.scores-is (more before c.loop-game-test.true at c.loop-game.invariant
          (sym (append-nil before) ∙ ap (λ o. before ++ cons_option o []) (sym w.in_default.is ∙ c.score_in.ensures)))
    ]
