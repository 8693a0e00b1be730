use Rattle.std.proofs.Common.{ℕ, List, Bor, codes, refl}
use Rattle.clap.specs.Words.{found_of}
use Rattle.command_line.proofs.Found.{text_given}
use Rattle.command_line.proofs.read.makeable_of.Goals as goal

pub returns : goal.returns
returns c = (
  refl,
  (
    text_given (λ (s : Bor (List ℕ)). s.now) c.get_str.result c.in_ok-file.file (found_of c.args.found.now) (codes "FILE") c.get_str.ensures c.in_ok-file.was,
    c.has_flag-pbn.ensures,
  ),
)
