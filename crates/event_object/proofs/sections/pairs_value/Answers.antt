use Rattle.std.proofs.Common.{◌≡◌, subst}
use Rattle.std.specs.Prelude.{IfOk}
use Rattle.bridge_config.specs.ConfigValue.{ConfigValue}
use Rattle.serde_json.specs.View.{view}
use Rattle.event_object.specs.Sections.{pairs_data}
use Rattle.event_object.proofs.sections.pairs_value.Goals as goal

pub returns : goal.returns
returns c = subst (λ (k : ConfigValue). IfOk c.pairs_by.result (λ value. view value ≡ pairs_data k)) c.fields.ensures.fields c.pairs_by.ensures
