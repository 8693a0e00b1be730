use Rattle.std.proofs.Common.{◌≡◌, subst}
use Rattle.std.specs.Prelude.{IfOk}
use Rattle.bridge_config.specs.ConfigValue.{ConfigValue}
use Rattle.serde_json.specs.View.{view}
use Rattle.results_object.specs.Values.{list_data}
use Rattle.results_object.specs.Object.{ranked_data}
use Rattle.results_object.proofs.rankings.ranking_value.Goals as goal

pub returns : goal.returns
returns c =
    subst (λ (k : ConfigValue). IfOk c.ranking_by.result (λ value. view value ≡ list_data (ranked_data k.scoring k.pairs) c.args.ranking.now))
    c.fields.ensures.fields c.ranking_by.ensures
