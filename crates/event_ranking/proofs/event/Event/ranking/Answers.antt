use Rattle.std.proofs.Common.{ap, ◌∙◌}
use Rattle.std.proofs.lemmas.Result.{IfOk-weaker}
use Rattle.event_ranking.specs.EventRanking.{scoring_of, field_lines, IsWideRanking, IsFieldRanking}
use Rattle.event_ranking.proofs.Lines.{ranked_alike}
use Rattle.event_ranking.proofs.event.Event.ranking.Goals as goal

pub returns : goal.returns
returns c =
    IfOk-weaker c.rank.result (λ ranking. IsWideRanking c.scoring_of.result c.as_slice.result.now ranking.items) (λ ranking. IsFieldRanking c.args.self.now c.args.field ranking.items)
    (λ ranking is. ranked_alike c.scoring_of.result (scoring_of c.args.self.now) c.as_slice.result.now (field_lines c.args.self.now c.args.field) ranking.items
    (c.scoring_of.ensures ∙ ap scoring_of c.self.view_is) (c.as_slice.ensures.value ∙ c.in_ok-lines.ensures.lines) is) c.rank.ensures
