use Rattle.std.proofs.Common.{◌+◌, map, sym, ap, ◌∙◌, subst}
use Rattle.std.proofs.lemmas.List.{map_push}
use Rattle.event_results.specs.Kept.{AreRankingsOf}
use Rattle.event_results.proofs.RankedSections.{ranking_more}
use Rattle.event_results.proofs.rankings.by_section.Goals as goal

pub loop-index-preserved : goal.loop-index-preserved
loop-index-preserved c =
    let lists = c.loop-index.lists.items in
    let new = c.in_ok-section_ranking.field-0 in
    let pushed = ap (map (λ ranking. ranking.items)) c.in_ok-push.ensures.items ∙ map_push (λ ranking. ranking.items) lists new in
    subst (AreRankingsOf c.args.event.now c.args.field (c.loop-index.index + 1)) (sym pushed)
    (ranking_more c.args.event.now c.args.field c.loop-index.index (map (λ ranking. ranking.items) lists) new.items c.loop-index.invariant c.in_ok-section_ranking.ensures)
