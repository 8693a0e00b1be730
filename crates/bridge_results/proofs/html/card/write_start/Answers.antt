use Rattle.bridge_results.specs.HtmlCard.{card_start}
use Rattle.bridge_results.proofs.html.card.write_start.Goals as goal

pub returns : goal.returns
unfolding card_start
returns g c =
    rw (
      c.as_slice.ensures.value,
      c.push_heading.ensures.text,
      c.as_bytes-2.ensures.value,
      c.as_str-2.ensures.value,
      c.pair_words-heading.ensures.text,
      c.push_bytes-3.ensures.text,
      c.push_bytes-2.ensures.text,
      c.as_bytes.ensures.value,
      c.as_str.ensures.value,
      c.pair_target-target.ensures.text,
      c.push_bytes.ensures.text,
      c.new-text.ensures,
    ) at c.write_text.ensures
