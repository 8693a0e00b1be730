use Rattle.std.proofs.Common.{refl}
use Rattle.event_pbn.specs.EventGames.{event_games}
use Rattle.club_commands.proofs.event_texts.write_games.Goals as goal

pub returns-in-Err : goal.returns-in-Err
returns-in-Err g c =
    let told = c.in-Err.ensures in (
      event_games c.args.results.now c.args.boards.now told.0 told.1,
      (told.0, told.1, (told.2, told.3), refl),
      (told.4, refl),
    )
