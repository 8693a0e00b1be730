use Rattle.line_text.specs.Streams.{stream}
use Rattle.club_commands.proofs.Served.{has_worked}
use Rattle.club_commands.proofs.on_disk.run_over.Goals as goal

pub returns : goal.returns
returns g c =
    rw c.let_go.ensures
    (has_worked c.args.work.now c.on_file.ensures.0 c.on_file.result.disk (stream g.R.Read.remaining c.args.input.now c.on_file.new.input)
    (stream g.W.Write.contents c.args.output.now c.on_file.new.output) c.on_file.result.ended c.on_file.ensures.1)
