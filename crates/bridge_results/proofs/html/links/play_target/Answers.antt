use Rattle.bridge_results.proofs.html.links.play_target.Goals as goal

pub returns-clause-text : goal.returns-clause-text
returns-clause-text c =
    rw (
      c.push_str-5.ensures.bytes,
      c.push_str-4.ensures.bytes,
      c.push_str-3.ensures.bytes,
      c.push_str-2.ensures.bytes,
      c.push_str.ensures.bytes,
      c.new-text.ensures,
      c.as_str.ensures.value,
      c.number_text.ensures.text,
      c.from.ensures,
      c.number.ensures.number,
      c.as_str-2.ensures.value,
      c.number_text-2.ensures.text,
      c.from-2.ensures,
      c.as_str-3.ensures.value,
      c.number_text-3.ensures.text,
      c.from-3.ensures,
    ) at c.push_str-6.ensures.bytes
