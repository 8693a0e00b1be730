use Rattle.std.proofs.Common.{List, map, ap, ◌∙◌}
use Rattle.bridge_config.specs.declared.fields.PairFields.{PairFields}
use Rattle.bridge_config.specs.ConfigValue.{ConfigValue, pair_of}
use Rattle.event_results.specs.EventTables.{ranked_fields}
use Rattle.event_results.proofs.tables.rankings.row_of.Goals as goal

pub returns : goal.returns
returns c =
    c.ranked_fields.ensures
    ∙ ap (λ (pairs : List PairFields). ranked_fields c.args.scoring (map pair_of pairs) c.args.field c.args.ranked.now) c.as_slice.ensures.value
    ∙ ap (λ (k : ConfigValue). ranked_fields c.args.scoring k.pairs c.args.field c.args.ranked.now) c.fields.ensures.fields
