use Rattle.std.proofs.Common.{sym, ◌∙◌}
use Rattle.bridge_config.proofs.Keys.{stands_in-map}
use Rattle.bridge_config.proofs.limits.stands_in.Goals as goal

pub returns : goal.returns
returns c = c.contains.ensures.value ∙ sym (stands_in-map c.args.keys.now c.args.key.0)
