use Rattle.std.proofs.Common.{◌≡◌, subst}
use Rattle.std.specs.Prelude.{IfOk}
use Rattle.bridge_config.specs.ConfigValue.{ConfigValue}
use Rattle.serde_json.specs.View.{view}
use Rattle.results_object.specs.Object.{event_data}
use Rattle.results_object.proofs.object.event_value.Goals as goal

pub returns : goal.returns
returns c = subst (λ (k : ConfigValue). IfOk c.event_by.result (λ value. view value ≡ event_data k)) c.fields.ensures.fields c.event_by.ensures
