use Rattle.evening_commands.proofs.drafting.draft_list.Goals as goal

pub returns-in-Ok : goal.returns-in-Ok
returns-in-Ok g c = rw c.in-Ok.is (c.evening_for.result, rw c.as_slice.ensures.value at c.evening_for.ensures, c.write_made.ensures)
