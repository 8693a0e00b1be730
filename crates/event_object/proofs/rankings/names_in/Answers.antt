use Rattle.std.proofs.Common.{◌≡◌, subst}
use Rattle.std.specs.Prelude.{IfOk}
use Rattle.bridge_config.specs.ConfigValue.{ConfigValue}
use Rattle.serde_json.specs.View.{view}
use Rattle.results_object.specs.Object.{names_data}
use Rattle.event_object.proofs.rankings.names_in.Goals as goal

pub returns : goal.returns
returns c =
    subst (λ (k : ConfigValue). IfOk c.names_value.result (λ value. view value ≡ names_data k.pairs c.args.pair))
    c.fields.ensures.fields (rw c.as_slice.ensures.value at c.names_value.ensures)
