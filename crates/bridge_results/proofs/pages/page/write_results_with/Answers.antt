use Rattle.std.proofs.Common.{◌∙◌}
use Rattle.bridge_results.proofs.PageParts.{mapped_some, mapped_there}
use Rattle.bridge_results.proofs.pages.page.write_results_with.Goals as goal

pub returns-in-Plain : goal.returns-in-Plain
returns-in-Plain g c =
    let first_there = c.ranking-first.ensures.field in
    let first_ranked = rw c.new-results.ensures at c.ranking-first.ensures.ranking in
    let second_there = rw c.new-results.ensures at c.ranking-second.ensures.field in
    let second_ranked = rw c.new-results.ensures at c.ranking-second.ensures.ranking in
    rw c.in-Plain.is (
      _,
      _,
      record {
        there = mapped_there c.ranking-first.result (λ ranked. ranked.items) ∙ first_there;
        ranked = mapped_some c.ranking-first.result (λ ranked. ranked.items) _ first_ranked;
      },
      record {
        there = mapped_there c.ranking-second.result (λ ranked. ranked.items) ∙ second_there;
        ranked = mapped_some c.ranking-second.result (λ ranked. ranked.items) _ second_ranked;
      },
      c.write_page.ensures,
    )

pub returns-in-Html : goal.returns-in-Html
returns-in-Html g c =
    let first_there = c.ranking-first.ensures.field in
    let first_ranked = rw c.new-results.ensures at c.ranking-first.ensures.ranking in
    let second_there = rw c.new-results.ensures at c.ranking-second.ensures.field in
    let second_ranked = rw c.new-results.ensures at c.ranking-second.ensures.ranking in
    rw c.in-Html.is (
      _,
      _,
      record {
        there = mapped_there c.ranking-first.result (λ ranked. ranked.items) ∙ first_there;
        ranked = mapped_some c.ranking-first.result (λ ranked. ranked.items) _ first_ranked;
      },
      record {
        there = mapped_there c.ranking-second.result (λ ranked. ranked.items) ∙ second_there;
        ranked = mapped_some c.ranking-second.result (λ ranked. ranked.items) _ second_ranked;
      },
      c.write_html.ensures,
    )
