use Rattle.std.proofs.Common.{◌∙◌}
use Rattle.clap.proofs.WalkLemmas.{one_text-rows}
use Rattle.clap.specs.Words.{found_of}
use Rattle.command_line.proofs.read.has_flag.Goals as goal

pub returns : goal.returns
returns c =
    let given = one_text-rows (found_of c.args.found.now) c.args.name.now in
    (λ is. c.get_flag.ensures.value (given ∙ is), λ is. c.get_flag.ensures.other (given ∙ is), λ is. c.get_flag.ensures.none (given ∙ is))
