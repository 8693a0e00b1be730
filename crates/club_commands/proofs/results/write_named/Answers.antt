use Rattle.std.proofs.Common.{refl}
use Rattle.bridge_results.specs.Costs.{seen}
use Rattle.bridge_results.specs.ResultsText.{named_page_text}
use Rattle.club_commands.proofs.results.write_named.Goals as goal

pub returns-in-Err : goal.returns-in-Err
returns-in-Err g c =
    let told = c.in-Err.ensures in (
      named_page_text c.args.format c.args.names (seen c.args.analysis.now) c.args.session.now told.0 told.1,
      (told.0, told.1, told.2, told.3, refl),
      (told.4, refl),
    )
