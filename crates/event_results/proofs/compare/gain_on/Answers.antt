use Rattle.std.proofs.Common.{ℤ, List, map, sym, ap, ◌∙◌, rules}
use Rattle.std.proofs.lemmas.Int.{to_z-of_z}
use mir.Syntax.{w32}
use mir.Val.{SFits}
use Rattle.bridge_ranking.specs.Ranking.{score_for, games_of, gained}
use Rattle.event_ranking.specs.Joint.{joint}
use Rattle.event_ranking.proofs.Joined.{mirrored}
use Rattle.event_results.proofs.compare.gain_on.Goals as goal

pub returns : goal.returns
returns c =
    let scoring = c.args.scoring in
    let all = joint (map games_of c.args.event.now) in
    let side = c.args.side in
    let by = c.args.by in
    let value = c.gained.result in
    let fits : SFits w32 value = search rules in
    to_z-of_z w32 value fits
    ∙ c.gained.ensures.value
    ∙ ap (λ (scores : List ℤ). gained scoring (map (score_for side) scores) side by) c.scores.ensures.scores
    ∙ ap (λ (scores : List ℤ). gained scoring scores side by) (sym (mirrored all side c.args.board))
