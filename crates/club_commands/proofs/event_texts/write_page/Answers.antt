use Rattle.std.proofs.Common.{refl}
use Rattle.event_results.specs.EventPage.{page_text}
use Rattle.club_commands.proofs.event_texts.write_page.Goals as goal

pub returns-in-Err : goal.returns-in-Err
returns-in-Err g c =
    let told = c.in-Err.ensures in (
      page_text c.args.format c.args.boards.now c.args.results.now told.0 told.1,
      (told.0, told.1, told.2, told.3, refl),
      (told.4, refl),
    )
