use Rattle.line_text.specs.Streams.{stream}
use Rattle.evening_commands.specs.Evenings.{Slips}
use Rattle.evening_commands.proofs.Files.{of_file}
use Rattle.evening_commands.proofs.slipping.run_slips.Goals as goal

pub returns : goal.returns
returns g c =
    of_file _ (Slips c.args.words.now (stream g.W.Write.contents c.args.output.now c.slips_found.new.output) c.slips_found.result)
    c.open.result c.slips_found.ensures
