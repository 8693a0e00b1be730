use Rattle.std.proofs.Common.{ℕ, List, Bor, map, codes}
use Rattle.clap.specs.Words.{found_of}
use Rattle.command_line.proofs.Found.{texts_given, list_given}
use Rattle.command_line.proofs.disks.disks_of.Goals as goal

pub returns : goal.returns
returns c =
    list_given _ c.in_ok-names.names.now c.list_of.result
    (texts_given (λ (s : Bor (List (Bor (List ℕ)))). map (λ (t : Bor (List ℕ)). t.now) s.now) c.get_strs.result c.in_ok-names.names (found_of c.args.found.now) (codes "DISK") c.get_strs.ensures c.in_ok-names.was)
    c.list_of.ensures
