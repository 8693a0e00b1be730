use Rattle.bridge_results.proofs.html.summary.pair_behind.Goals as goal

pub returns : goal.returns
returns c =
    rw (
      c.push_html-2.ensures.text,
      c.push_bytes-2.ensures.text,
      c.push_html.ensures.text,
      c.push_bytes.ensures.text,
      c.new-text.ensures,
      c.as_bytes.ensures.value,
      c.as_str.ensures.value,
      c.number_text-number.ensures.text,
      c.from.ensures,
      c.as_bytes-2.ensures.value,
      c.as_str-2.ensures.value,
      c.shown_pair-shown.ensures.names,
    ) at c.push_bytes-3.ensures.text
