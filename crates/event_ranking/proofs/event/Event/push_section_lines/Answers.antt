use Rattle.std.proofs.Common.{◌≡◌, ◌++◌, ◌≤◌, List, length, ap, ◌∙◌, subst, arith}
use Rattle.std.specs.List.{range_with_len}
use Rattle.std.proofs.lemmas.List.{length-map}
use Rattle.std.proofs.lemmas.Result.{on_ok_weaker}
use Rattle.bridge_ranking.specs.Ranking.{games_of}
use Rattle.session_rules.specs.State.{SessionValue}
use Rattle.event_ranking.specs.declared.ranking.SectionLine.{SectionLine}
use Rattle.event_ranking.specs.EventRanking.{lines_at}
use Rattle.event_ranking.specs.Joint.{made_lines}
use Rattle.event_ranking.proofs.Lines.{lines_at_made, few_made}
use Rattle.event_ranking.proofs.event.Event.push_section_lines.Goals as goal

pub push_lines-requires-clause-section : goal.push_lines-requires-clause-section
push_lines-requires-clause-section c =
    omega (arith, ap length c.self.invariant.games_are, length-map c.self.inside.sections.now games_of, ap length c.self.view_is, c.requires)

pub push_lines-requires-clause-few : goal.push_lines-requires-clause-few
push_lines-requires-clause-few c = omega (arith, c.self.invariant.few, ap length c.self.view_is, c.requires)

-- the lines that were made are those of the section
are_made : (c : goal.After-push_lines) → made_lines c.scoring_of.result c.self.inside.wide c.args.index (range_with_len c.pairs_at-pairs.result.first c.pairs_at-pairs.result.count) ≡ lines_at c.args.self.now c.args.index c.args.field
are_made c =
    lines_at_made c.self.inside.sections.now c.self.inside.wide c.args.index c.args.field c.scoring_of.result _ c.self.invariant.games_are (omega (arith, ap length c.self.view_is, c.requires))
    c.scoring_of.ensures c.pairs_at-pairs.ensures.pairs
    ∙ ap (λ (s : List SessionValue). lines_at s c.args.index c.args.field) c.self.view_is

pub returns-clause-lines : goal.returns-clause-lines
returns-clause-lines c =
    on_ok_weaker c.push_lines.result (λ lines. lines ∙ ap (λ (made : List SectionLine). c.args.lines.now.items ++ made) (are_made c)) c.push_lines.ensures

pub returns-clause-few : goal.returns-clause-few
returns-clause-few c =
    subst (λ (lines : List SectionLine). length lines ≤ 24) (are_made c)
    (few_made c.scoring_of.result c.self.inside.wide c.args.index c.pairs_at-pairs.result.first c.pairs_at-pairs.result.count c.pairs_at-pairs.ensures.least c.pairs_at-pairs.ensures.most)
