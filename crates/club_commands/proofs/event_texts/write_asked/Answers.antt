use Rattle.club_commands.proofs.event_texts.write_asked.Goals as goal

pub returns-in-Page : goal.returns-in-Page
returns-in-Page g c = rw c.in-Page.is (rw c.page_format.ensures at c.write_text_of.ensures)
