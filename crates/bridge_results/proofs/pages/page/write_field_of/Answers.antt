use Rattle.std.proofs.Common.{subst}
use Rattle.line_text.specs.Streams.{stream, Written}
use Rattle.bridge_config.specs.ConfigValue.{ConfigValue}
use Rattle.bridge_results.specs.RankingText.{field_text}
use Rattle.bridge_results.proofs.pages.page.write_field_of.Goals as goal

pub returns : goal.returns
returns g c =
    subst (λ (k : ConfigValue). Written (stream g.W.Write.contents c.args.writer.now c.write_field.new.writer) (field_text c.args.format k.scoring c.args.names k.pairs c.args.field c.args.ranking.now) c.write_field.result)
    c.fields-fields.ensures.fields (rw c.as_slice-pairs.ensures.value at c.write_field.ensures)
