use Rattle.line_text.specs.Streams.{stream}
use Rattle.evening_commands.specs.Making.{HoldsEvening}
use Rattle.evening_commands.proofs.Files.{of_file}
use Rattle.evening_commands.proofs.making.evening_of_file.Goals as goal

pub returns : goal.returns
returns g c =
    of_file _ (HoldsEvening c.args.words.now (stream g.W.Write.contents c.args.output.now c.evening_found.new.output) c.evening_found.result)
    c.open.result c.evening_found.ensures
