use Rattle.event_results.proofs.pages.sheets.write_section.Goals as goal

pub returns : goal.returns
returns g c = rw (c.of_section-first.ensures, c.of_section-second.ensures) at c.write_both.ensures
