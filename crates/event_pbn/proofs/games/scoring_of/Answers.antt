use Rattle.std.proofs.Common.{ap}
use Rattle.bridge_config.specs.ConfigValue.{ConfigValue}
use Rattle.event_pbn.proofs.games.scoring_of.Goals as goal

pub returns : goal.returns
returns c = ap (λ (k : ConfigValue). k.scoring) c.fields.ensures.fields
