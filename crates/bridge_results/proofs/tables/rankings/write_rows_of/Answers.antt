use Rattle.std.proofs.Common.{subst}
use Rattle.std.specs.Prelude.{flat_map}
use Rattle.line_text.specs.Streams.{stream, Written}
use Rattle.bridge_config.specs.ConfigValue.{ConfigValue}
use Rattle.bridge_results.specs.TablesText.{ranked_fields}
use Rattle.bridge_results.proofs.tables.rankings.write_rows_of.Goals as goal

pub returns : goal.returns
returns g c =
    subst (λ (k : ConfigValue). Written (stream g.W.Write.contents c.args.writer.now c.write_rows.new.writer) (flat_map (ranked_fields k.scoring k.pairs c.args.field) c.args.ranking.now) c.write_rows.result)
    c.fields-fields.ensures.fields (rw c.as_slice.ensures.value at c.write_rows.ensures)
