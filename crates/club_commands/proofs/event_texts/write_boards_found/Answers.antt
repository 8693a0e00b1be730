use Rattle.std.proofs.Common.{inl, inr}
use Rattle.club_commands.proofs.event_texts.write_boards_found.Goals as goal

pub returns-in-Ok : goal.returns-in-Ok
returns-in-Ok g c = inl (c.in-Ok.boards.items, rw c.sections.ensures.sections at c.in-Ok.ensures, rw c.as_slice.ensures.value at c.write_boards.ensures)

pub returns-in-Err : goal.returns-in-Err
returns-in-Err g c = inr c.write_without_boards.ensures
