use Rattle.bridge_endings.proofs.Finding.{found_set}
use Rattle.bridge_endings.proofs.entry.Entry.begin.Goals as goal

pub returns : goal.returns
returns c = found_set c.args.self.now.found 0 c.args.found.now c.requires.0 c.requires.1
