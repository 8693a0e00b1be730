use Rattle.std.proofs.Common.{refl}
use Rattle.results_pbn.specs.Games.{results_games}
use Rattle.club_commands.proofs.exports.write_games.Goals as goal

pub returns-in-Err : goal.returns-in-Err
returns-in-Err g c =
    let told = c.in-Err.ensures in (
      results_games c.args.session.now c.args.boards.now told.0,
      (told.0, told.1, refl),
      (told.2, refl),
    )
