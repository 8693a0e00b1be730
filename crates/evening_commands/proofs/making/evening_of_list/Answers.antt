use Rattle.evening_commands.proofs.making.evening_of_list.Goals as goal

pub returns-in-Ok : goal.returns-in-Ok
returns-in-Ok g c = rw c.in-Ok.is (c.evening_for-made.result, rw c.as_slice.ensures.value at c.evening_for-made.ensures, c.evening_made.ensures)
