use Rattle.std.proofs.Common.{inl, inr, ap, Err}
use Rattle.club_commands.proofs.pair_web.show_said.Goals as goal

pub returns-in-Ok : goal.returns-in-Ok
returns-in-Ok g c = inl (rw (← c.requires.line) c.in-Ok.ensures.0, c.show_pair.ensures)

pub returns-in-Err : goal.returns-in-Err
returns-in-Err g c = inr (rw (← c.requires.line) c.in-Err.ensures.0, ap Err c.in-Err.ensures.1)
