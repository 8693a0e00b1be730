use Rattle.event_ranking.proofs.sheet.write_head.Goals as goal

pub returns : goal.returns
returns g c =
    rw (
      c.as_slice-3.ensures.value,
      c.push_wide_titles.ensures,
      c.push_caption.ensures.text,
      c.as_slice-2.ensures.value,
      c.push_table_start.ensures.text,
      c.push_heading.ensures.text,
      c.as_slice.ensures.value,
      c.heading_words-words.ensures.text,
      c.push_section_start.ensures.text,
      c.new-text.ensures,
    ) at c.write_text.ensures
