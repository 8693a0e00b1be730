use Rattle.std.proofs.Common.{refl}
use Rattle.std.proofs.KnownBytes.{Keeps-refl}
use Rattle.club_commands.proofs.run.run_command.Goals as goal

pub returns-in-Ok-clause-ended : goal.returns-in-Ok-clause-ended
returns-in-Ok-clause-ended g c = (_, c.in-Ok.ensures, (refl, Keeps-refl _))

pub returns-in-Err-clause-ended : goal.returns-in-Err-clause-ended
returns-in-Err-clause-ended g c = (_, c.in-Err.ensures, (c.fails.ensures.status, c.fails.ensures.line))
