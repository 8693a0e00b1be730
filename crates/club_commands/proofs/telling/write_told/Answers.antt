use Rattle.std.proofs.Common.{refl}
use Rattle.bridge_pbn.specs.Games.{session_text}
use Rattle.club_commands.proofs.telling.write_told.Goals as goal

pub returns-in-Games : goal.returns-in-Games
returns-in-Games g c = rw c.in-Games.is (session_text c.args.session.now, refl, c.write_games.ensures)
