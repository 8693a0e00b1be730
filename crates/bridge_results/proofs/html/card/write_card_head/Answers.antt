use Rattle.bridge_results.specs.HtmlCard.{html_card_head}
use Rattle.bridge_results.proofs.html.card.write_card_head.Goals as goal

pub returns : goal.returns
unfolding html_card_head
returns g c = rw (c.as_slice.ensures.value, c.push_card_titles.ensures, c.push_bytes.ensures.text, c.new-text.ensures) at c.write_text.ensures
