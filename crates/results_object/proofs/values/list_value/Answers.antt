use Rattle.serde_json.proofs.Views.{view-Array}
use Rattle.results_object.proofs.values.list_value.Goals as goal

pub returns : goal.returns
returns c = view-Array c.args.list
