use Rattle.bridge_results.proofs.html.course.write_calls.Goals as goal

pub returns : goal.returns
returns g c =
    rw (
      c.as_slice.ensures.value,
      c.push_linked_row.ensures.text,
      c.new-text.ensures,
      c.as_bytes.ensures.value,
      c.as_str.ensures.value,
      c.call_cell-first.ensures.text,
      c.as_bytes-2.ensures.value,
      c.as_str-2.ensures.value,
      c.call_cell-second.ensures.text,
      c.as_bytes-3.ensures.value,
      c.as_str-3.ensures.value,
      c.call_cell-third.ensures.text,
      c.as_bytes-4.ensures.value,
      c.as_str-4.ensures.value,
      c.call_cell-fourth.ensures.text,
    ) at c.write_text.ensures
