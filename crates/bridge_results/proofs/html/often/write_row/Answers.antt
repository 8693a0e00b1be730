use Rattle.bridge_results.specs.HtmlOften.{often_row}
use Rattle.bridge_results.proofs.html.often.write_row.Goals as goal

pub returns : goal.returns
unfolding often_row
returns g c =
    rw (
      c.as_slice.ensures.value,
      c.push_bytes-6.ensures.text,
      c.push_bytes-5.ensures.text,
      c.as_bytes-2.ensures.value,
      c.as_str-2.ensures.value,
      c.number_text-times.ensures.text,
      c.push_bytes-4.ensures.text,
      c.push_bar.ensures.text,
      c.from-count.ensures,
      c.push_bytes-3.ensures.text,
      c.push_bytes-2.ensures.text,
      c.as_bytes.ensures.value,
      c.as_str.ensures.value,
      c.score_text-score.ensures.text,
      c.push_bytes.ensures.text,
      c.new-text.ensures,
    ) at c.write_text.ensures
