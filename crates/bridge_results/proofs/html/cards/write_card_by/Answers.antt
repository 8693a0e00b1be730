use Rattle.std.proofs.Common.{subst}
use Rattle.line_text.specs.Streams.{stream, Written}
use Rattle.bridge_config.specs.ConfigValue.{ConfigValue}
use Rattle.bridge_results.specs.HtmlCard.{card_html}
use Rattle.bridge_results.proofs.html.cards.write_card_by.Goals as goal

pub returns : goal.returns
returns g c =
    subst (λ (k : ConfigValue). Written (stream g.W.Write.contents c.args.writer.now c.write_card.new.writer) (card_html k.scoring c.args.names k.pairs c.args.pair c.args.standing.now c.args.lines.now) c.write_card.result)
    c.fields-fields.ensures.fields (rw c.as_slice-pairs.ensures.value at c.write_card.ensures)
