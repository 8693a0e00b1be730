use Rattle.line_text.specs.Streams.{stream}
use Rattle.makeable_deals.specs.Making.{Makes}
use Rattle.makeable_deals.proofs.FileRead.{of_file}
use Rattle.makeable_deals.proofs.file.run_makeable.Goals as goal

pub returns : goal.returns
returns g c =
    of_file _ (Makes (stream g.W.Write.contents c.args.output.now c.makeable_found.new.output) c.makeable_found.result c.args.form)
    c.open.result c.makeable_found.ensures
