use Rattle.bridge_results.proofs.pages.sheets.write_sheet_head.Goals as goal

pub returns : goal.returns
returns g c =
    rw (c.as_slice.ensures.value, c.push_heading.ensures.text, c.push_section_start.ensures.text, c.new-text.ensures) at c.write_text.ensures
