use Rattle.line_text.specs.Streams.{stream}
use Rattle.evening_commands.specs.Evenings.{Drafts}
use Rattle.evening_commands.proofs.Files.{of_file}
use Rattle.evening_commands.proofs.drafting.run_draft.Goals as goal

pub returns : goal.returns
returns g c =
    of_file _ (Drafts c.args.words.now (stream g.W.Write.contents c.args.output.now c.draft_found.new.output) c.draft_found.result)
    c.open.result c.draft_found.ensures
