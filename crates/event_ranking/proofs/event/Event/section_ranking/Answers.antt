use Rattle.std.proofs.Common.{◌++◌, List, length, ap, ◌∙◌, arith}
use Rattle.std.proofs.lemmas.Result.{IfOk-weaker}
use Rattle.event_ranking.specs.declared.ranking.SectionLine.{SectionLine}
use Rattle.event_ranking.specs.EventRanking.{scoring_of, lines_at, IsWideRanking, IsSectionRanking}
use Rattle.event_ranking.proofs.Lines.{ranked_alike}
use Rattle.event_ranking.proofs.event.Event.section_ranking.Goals as goal

pub rank-requires : goal.rank-requires
rank-requires c =
    let lines = c.as_slice.ensures.value ∙ c.in_ok-push_section_lines.ensures.lines
    ∙ ap (λ (before : List SectionLine). before ++ lines_at c.args.self.now c.args.index c.args.field) c.new-own.ensures.items in
    omega (arith, ap length lines, c.in_ok-push_section_lines.ensures.few)

pub returns : goal.returns
returns c =
    let lines = c.as_slice.ensures.value ∙ c.in_ok-push_section_lines.ensures.lines
    ∙ ap (λ (before : List SectionLine). before ++ lines_at c.args.self.now c.args.index c.args.field) c.new-own.ensures.items in
    IfOk-weaker c.rank.result (λ ranking. IsWideRanking c.scoring_of.result c.as_slice.result.now ranking.items) (λ ranking. IsSectionRanking c.args.self.now c.args.index c.args.field ranking.items)
    (λ ranking is. ranked_alike c.scoring_of.result (scoring_of c.args.self.now) c.as_slice.result.now (lines_at c.args.self.now c.args.index c.args.field) ranking.items
    (c.scoring_of.ensures ∙ ap scoring_of c.self.view_is) lines is) c.rank.ensures
