use Rattle.std.proofs.Common.{◌∙◌}
use Rattle.std.proofs.lemmas.Result.{IfOk-weaker}
use Rattle.bridge_results.proofs.PageParts.{mapped_some, mapped_there}
use Rattle.results_object.proofs.object.object_text.Goals as goal

pub returns : goal.returns
returns c =
    let first_there = c.ranking-first.ensures.field in
    let first_ranked = rw c.new-results.ensures at c.ranking-first.ensures.ranking in
    let second_there = rw c.new-results.ensures at c.ranking-second.ensures.field in
    let second_ranked = rw c.new-results.ensures at c.ranking-second.ensures.ranking in
    IfOk-weaker c.results_text.result _ _ (λ text is. (
      _,
      _,
      record {
        there = mapped_there c.ranking-first.result (λ ranked. ranked.items) ∙ first_there;
        ranked = mapped_some c.ranking-first.result (λ ranked. ranked.items) _ first_ranked;
      },
      record {
        there = mapped_there c.ranking-second.result (λ ranked. ranked.items) ∙ second_there;
        ranked = mapped_some c.ranking-second.result (λ ranked. ranked.items) _ second_ranked;
      },
      is,
    )) c.results_text.ensures
