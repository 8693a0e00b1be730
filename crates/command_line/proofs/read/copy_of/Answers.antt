use Rattle.std.proofs.Common.{ℕ, List, Bor, codes, refl}
use Rattle.clap.specs.Words.{found_of}
use Rattle.command_line.proofs.Found.{text_given}
use Rattle.command_line.proofs.read.copy_of.Goals as goal

pub returns : goal.returns
returns c =
    let entries = found_of c.args.found.now in (
      refl,
      (
        text_given (λ (s : Bor (List ℕ)). s.now) c.get_str.result c.in_ok-disk.disk entries (codes "DISK") c.get_str.ensures c.in_ok-disk.was,
        text_given (λ (s : Bor (List ℕ)). s.now) c.get_str-2.result c.in_ok-copy.copy entries (codes "DISK2") c.get_str-2.ensures c.in_ok-copy.was,
      ),
    )
