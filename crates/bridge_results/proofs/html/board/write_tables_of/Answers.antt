use Rattle.std.proofs.Common.{ap, ◌∙◌}
use Rattle.bridge_config.specs.ConfigValue.{ConfigValue}
use Rattle.bridge_results.proofs.html.board.write_tables_of.Goals as goal

pub returns : goal.returns
returns g c =
    let scoring = ap (λ (k : ConfigValue). k.scoring) (c.fields.ensures.fields ∙ c.config.ensures) in
    rw (scoring, c.available.ensures, c.requires.results) at c.write_tables.ensures
