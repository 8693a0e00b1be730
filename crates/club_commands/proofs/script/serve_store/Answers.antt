use Rattle.std.proofs.Common.{◌∙◌, inr, refl, sym}
use Rattle.line_text.specs.Streams.{stream}
use Rattle.table_server.proofs.FaultLemmas.{met_one}
use Rattle.club_commands.proofs.Served.{ends_serving}
use Rattle.club_commands.proofs.script.serve_store.Goals as goal

pub returns-then-has_failed : goal.returns-then-has_failed
returns-then-has_failed g c =
    let disk = g.D.SectorDisk.disk in
    let start = c.args.store.now in
    let last = c.serve_lines-served.new.store in
    let failed = sym c.has_failed.ensures ∙ c.if-has_failed.true in (
      c.serve_lines-served.result,
      ends_serving disk c.args.set start last (stream g.R.Read.remaining c.args.input.now c.serve_lines-served.new.reader)
          (stream g.W.Write.contents c.args.output.now c.serve_lines-served.new.writer) c.serve_lines-served.result c.serve_lines-served.ensures.ok c.serve_lines-served.ensures.fault,
      inr (failed, met_one disk start last c.serve_lines-served.ensures.faults c.requires.works failed, refl),
    )
