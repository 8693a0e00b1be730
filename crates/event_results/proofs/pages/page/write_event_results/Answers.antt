use Rattle.event_results.proofs.pages.page.write_event_results.Goals as goal

pub returns : goal.returns
returns g c = (_, _, c.rankings-first.ensures, c.rankings-second.ensures, c.write_page.ensures)
