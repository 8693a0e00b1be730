use Rattle.std.proofs.Common.{List, map, ap, ◌∙◌}
use Rattle.bridge_config.specs.declared.fields.PairFields.{PairFields}
use Rattle.bridge_config.specs.ConfigValue.{ConfigValue, pair_of, pair_names}
use Rattle.event_ranking.specs.EventText.{wide_row}
use Rattle.event_ranking.proofs.sheet.row_of.Goals as goal

pub returns : goal.returns
returns c =
    c.wide_row.ensures
    ∙ ap (λ (pairs : List PairFields). wide_row c.args.format c.args.scoring (pair_names (map pair_of pairs) c.args.ranked.now.pair) c.args.ranked.now) c.as_slice.ensures.value
    ∙ ap (λ (k : ConfigValue). wide_row c.args.format c.args.scoring (pair_names k.pairs c.args.ranked.now.pair) c.args.ranked.now) c.fields.ensures.fields
