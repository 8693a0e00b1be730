use Rattle.std.proofs.Common.{inr}
use Rattle.club_commands.proofs.planning.plan_evening.Goals as goal

pub returns : goal.returns
returns g c = inr (c.read_text.new.text.items, c.in_ok-read_text.ensures, rw c.as_slice.ensures.value at c.plan_of_text.ensures)
