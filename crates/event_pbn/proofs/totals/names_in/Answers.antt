use Rattle.std.proofs.Common.{List, map, ap, ◌∙◌}
use Rattle.bridge_config.specs.declared.fields.PairFields.{PairFields}
use Rattle.bridge_config.specs.ConfigValue.{ConfigValue, pair_of}
use Rattle.results_pbn.specs.Totals.{names_cell}
use Rattle.event_pbn.proofs.totals.names_in.Goals as goal

pub returns-clause-cell : goal.returns-clause-cell
returns-clause-cell c =
    c.names_cell.ensures.cell
    ∙ ap (λ (pairs : List PairFields). names_cell (map pair_of pairs) c.args.pair) c.as_slice.ensures.value
    ∙ ap (λ (k : ConfigValue). names_cell k.pairs c.args.pair) c.fields.ensures.fields
