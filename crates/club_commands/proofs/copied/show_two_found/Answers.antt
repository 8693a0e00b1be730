use Rattle.club_commands.proofs.copied.show_two_found.Goals as goal

pub returns-in-Ok : goal.returns-in-Ok
returns-in-Ok g c = rw c.in-Ok.is (c.as_slice.result, c.as_slice.ensures.value, c.show_two.ensures)

pub returns-in-Err : goal.returns-in-Err
returns-in-Err g c = rw c.in-Err.is c.refuse_list.ensures
