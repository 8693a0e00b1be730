use Rattle.club_commands.proofs.copied.show_copied.Goals as goal

pub returns-in-None : goal.returns-in-None
returns-in-None g c = rw c.in-None.is (rw c.requires at c.show_two.ensures)

pub returns-in-Some : goal.returns-in-Some
returns-in-Some g c = rw c.in-Some.is (_, c.list_of_file.ensures, c.show_two_found.ensures)
