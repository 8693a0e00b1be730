use Rattle.std.proofs.Common.{◌+◌, ◌++◌, ◌∷◌, [], map, sym, ap, ◌∙◌, arith}
use Rattle.std.specs.List.{range_with_len}
use Rattle.std.proofs.lemmas.List.{map_push}
use Rattle.std.proofs.lemmas.List.FromFn.{map-range_with_len_more}
use Rattle.bridge_cards.specs.declared.seat.Side.TheVariants.{NorthSouth}
use Rattle.bridge_ranking.specs.Ranking.{scores_on}
use Rattle.event_ranking.specs.Joint.{joint}
use Rattle.event_ranking.proofs.wide.scores_by_board.Goals as goal

pub loop-index-preserved : goal.loop-index-preserved
loop-index-preserved c =
    let f = scores_on (joint (map (λ games. games.items) c.args.sections.now)) NorthSouth in
    let index = c.loop-index.index in
    let list = c.in_ok-scores_on.field-0 in
    ap (map (λ scores. scores.items)) c.in_ok-push.ensures.items
    ∙ map_push (λ scores. scores.items) c.loop-index.lists.items list
    ∙ ap (λ ls. ls ++ list.items ∷ []) c.loop-index.invariant
    ∙ ap (λ scores. map f (range_with_len 1 index) ++ scores ∷ []) c.in_ok-scores_on.ensures
    ∙ sym (map-range_with_len_more f 1 index (index + 1) (omega arith))
