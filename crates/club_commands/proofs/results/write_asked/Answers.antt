use Rattle.club_commands.proofs.results.write_asked.Goals as goal

pub returns-then-page : goal.returns-then-page
returns-then-page g c = rw c.if-page.true (rw c.page_format-format.ensures at c.write_plain.ensures)

pub returns-else-page : goal.returns-else-page
returns-else-page g c = rw c.if-page.false (rw c.page_format-format.ensures at c.write_analysed.ensures)
