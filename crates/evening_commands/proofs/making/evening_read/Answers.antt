use Rattle.std.proofs.Common.{inr}
use Rattle.evening_commands.proofs.making.evening_read.Goals as goal

pub returns-in-Ok : goal.returns-in-Ok
returns-in-Ok g c = inr (c.read_text.new.text.items, c.in-Ok.ensures, rw c.as_slice.ensures.value at c.evening_of_text.ensures)
