use Rattle.std.proofs.Common.{subst}
use Rattle.std.specs.Prelude.{flat_map}
use Rattle.line_text.specs.Streams.{stream, Written}
use Rattle.bridge_config.specs.ConfigValue.{ConfigValue}
use Rattle.results_pbn.specs.Totals.{total_row}
use Rattle.results_pbn.proofs.totals.write_rows_of.Goals as goal

pub returns : goal.returns
returns g c =
    subst (λ (k : ConfigValue). Written (stream g.W.Write.contents c.args.writer.now c.write_rows.new.writer) (flat_map (total_row c.args.two k.scoring k.pairs c.args.field) c.args.ranking.now) c.write_rows.result)
    c.fields-fields.ensures.fields (rw c.as_slice-pairs.ensures.value at c.write_rows.ensures)
