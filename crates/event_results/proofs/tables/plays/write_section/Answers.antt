use Rattle.event_results.proofs.tables.plays.write_section.Goals as goal

pub returns : goal.returns
returns g c = rw (c.as_slice.ensures.value, c.section_field.ensures.text) at c.write_text.ensures
