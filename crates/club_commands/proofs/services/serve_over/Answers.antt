use Rattle.line_text.specs.Streams.{stream}
use Rattle.club_commands.proofs.Served.{serves_disk}
use Rattle.club_commands.proofs.services.serve_over.Goals as goal

pub returns-in-Ok : goal.returns-in-Ok
returns-in-Ok g c =
    serves_disk c.new-cache.result c.args.service.now c.args.disk c.serve_with.result.disk c.in-Ok.store
    (stream g.R.Read.remaining c.args.input.now c.serve_with.new.input) (stream g.W.Write.contents c.args.output.now c.serve_with.new.output)
    c.serve_with.result.ended c.in-Ok.ensures.opened c.serve_with.ensures
