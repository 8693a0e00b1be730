use Rattle.std.proofs.Common.{subst}
use Rattle.line_text.specs.Streams.{stream, Written}
use Rattle.bridge_config.specs.ConfigValue.{ConfigValue}
use Rattle.bridge_results.specs.HtmlPage.{html_ranking}
use Rattle.bridge_results.proofs.html.ranking.write_ranking.Goals as goal

pub returns : goal.returns
returns g c =
    subst (λ (k : ConfigValue). Written (stream g.W.Write.contents c.args.writer.now c.write_pairs.new.writer) (html_ranking k c.args.names c.args.heading.now c.args.ranking.now) c.write_pairs.result)
    c.fields-fields.ensures.fields (rw c.as_slice-pairs.ensures.value at c.write_pairs.ensures)
