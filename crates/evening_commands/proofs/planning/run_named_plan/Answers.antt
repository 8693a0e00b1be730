use Rattle.line_text.specs.Streams.{stream}
use Rattle.evening_commands.specs.Plans.{Plans}
use Rattle.evening_commands.proofs.Files.{of_file}
use Rattle.evening_commands.proofs.planning.run_named_plan.Goals as goal

pub returns : goal.returns
returns g c =
    of_file _ (Plans (stream g.W.Write.contents c.args.output.now c.plan_found.new.output) c.plan_found.result) c.open.result
    c.plan_found.ensures
