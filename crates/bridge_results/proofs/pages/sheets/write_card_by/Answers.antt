use Rattle.std.proofs.Common.{subst}
use Rattle.line_text.specs.Streams.{stream, Written}
use Rattle.bridge_config.specs.ConfigValue.{ConfigValue}
use Rattle.bridge_results.specs.CardText.{score_card_text}
use Rattle.bridge_results.proofs.pages.sheets.write_card_by.Goals as goal

pub returns : goal.returns
returns g c =
    subst (λ (k : ConfigValue). Written (stream g.W.Write.contents c.args.writer.now c.write_card.new.writer) (score_card_text c.args.format k.scoring c.args.names k.pairs c.args.pair c.args.lines.now) c.write_card.result)
    c.fields-fields.ensures.fields (rw c.as_slice-pairs.ensures.value at c.write_card.ensures)
