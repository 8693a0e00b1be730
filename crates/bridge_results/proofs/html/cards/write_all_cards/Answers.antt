use Rattle.std.proofs.Common.{ap, ◌∙◌}
use Rattle.bridge_config.specs.ConfigValue.{ConfigValue}
use Rattle.bridge_results.specs.HtmlPage.{html_cards}
use Rattle.bridge_results.proofs.html.cards.write_all_cards.Goals as goal

pub returns : goal.returns
unfolding html_cards
returns g c =
    let stated = ap (λ (k : ConfigValue). k.movement.shape.pairs) (c.fields.ensures.fields ∙ c.config.ensures) in
    rw (c.shape-pairs.ensures.shape, stated) at c.write_cards.ensures
