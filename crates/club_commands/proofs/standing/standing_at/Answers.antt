use Rattle.std.proofs.Common.{Some}
use Rattle.club_commands.proofs.standing.standing_at.Goals as goal

pub returns : goal.returns
returns g c = (Some c.locked_disk-found.result, c.standing_found-2.ensures)
