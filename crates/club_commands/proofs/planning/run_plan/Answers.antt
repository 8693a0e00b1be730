use Rattle.line_text.specs.Streams.{stream}
use Rattle.club_commands.specs.ConfigFile.{Plans}
use Rattle.evening_commands.proofs.Files.{of_file}
use Rattle.club_commands.proofs.planning.run_plan.Goals as goal

pub returns : goal.returns
returns g c =
    of_file _ (Plans (stream g.W.Write.contents c.args.output.now c.plan_found.new.output) c.plan_found.result) c.open.result
    c.plan_found.ensures
