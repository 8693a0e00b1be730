use Rattle.std.proofs.Common.{[], ◌++◌, length, sym, ap, ◌∙◌, arith}
use Rattle.std.specs.List.{cons_option}
use Rattle.std.proofs.lemmas.List.{append-nil}
use Rattle.bridge_ranking.proofs.Gains.{filled}
use Rattle.bridge_results.specs.ScoreCard.{score_card_line}
use Rattle.bridge_results.proofs.Walked.{room_left}
use Rattle.bridge_results.proofs.card.card_lines.Goals as goal
use Rattle.bridge_results.proofs.card.card_lines.Goals.{in-Some, in_default}

pub push-requires : goal.push-requires
push-requires c =
    let line = score_card_line c.args.scoring c.args.games.now c.args.pair in
    let room = room_left line c.args.plays.now c.loop-play.play-index c.play-item.result c.in-Some.line c.loop-play-test.true
    (ap line (sym c.play-item.is) ∙ sym c.score_card_line.ensures ∙ c.in-Some.is) in
    (omega arith, omega (arith, room, ap length c.loop-play.invariant, c.requires.few))

pub loop-play-preserved : goal.loop-play-preserved
loop-play-preserved c =
    let lines = c.loop-play.lines.items in
    let filled_by = filled (score_card_line c.args.scoring c.args.games.now c.args.pair) c.args.plays.now c.loop-play.play-index c.play-item.result lines in
    elim c.match-score_card_line.branch [
      | in-Some w ↦ rw w.lines-is (filled_by w.push.new.self.items c.loop-play-test.true c.play-item.is c.loop-play.invariant
          (w.push.ensures.items ∙ ap (λ o. lines ++ cons_option o []) (sym w.in-Some.is ∙ c.score_card_line.ensures)))
      | in_default w ↦ rw w.lines-is (filled_by lines c.loop-play-test.true c.play-item.is c.loop-play.invariant
          (sym (append-nil lines) ∙ ap (λ o. lines ++ cons_option o []) (sym w.in_default.is ∙ c.score_card_line.ensures)))
    ]
