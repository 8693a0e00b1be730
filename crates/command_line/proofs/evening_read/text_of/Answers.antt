use Rattle.std.proofs.Common.{ℕ, List, Bor}
use Rattle.clap.specs.Words.{found_of}
use Rattle.command_line.proofs.Found.{text_given}
use Rattle.command_line.proofs.evening_read.text_of.Goals as goal

pub returns : goal.returns
returns c =
    text_given (λ (s : Bor (List ℕ)). s.now) c.get_str.result c.in_ok-text.text (found_of c.args.found.now) c.args.name.now c.get_str.ensures c.in_ok-text.was
