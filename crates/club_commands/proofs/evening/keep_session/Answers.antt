use Rattle.std.proofs.Common.{inr}
use Rattle.club_commands.proofs.evening.keep_session.Goals as goal

pub returns-in-Ok : goal.returns-in-Ok
returns-in-Ok g c = inr (record { ref_ptr = c.args.disk.ref_ptr; now = c.in-Ok.session }, c.in-Ok.ensures.opening, c.run_over.ensures)
