use Rattle.std.proofs.Common.{◌∙◌, length, sym, ap}
use Rattle.std.proofs.lemmas.List.{length-map}
use Rattle.bridge_config.specs.ConfigValue.{ConfigValue, pair_of}
use Rattle.evening_commands.proofs.people.pair_count.Goals as goal

pub returns-clause-count : goal.returns-clause-count
returns-clause-count c =
    c.len.ensures.value ∙ sym (length-map c.fields.result.now.pairs.items pair_of)
    ∙ ap (λ (k : ConfigValue). length k.pairs) c.fields.ensures.fields
