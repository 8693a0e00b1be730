use Rattle.bridge_endings.proofs.Finding.{found_set}
use Rattle.bridge_endings.proofs.entry.Entry.set.Goals as goal

pub returns-then-index-lt4 : goal.returns-then-index-lt4
returns-then-index-lt4 c = found_set c.args.self.now.found c.args.index c.args.found c.requires.0 c.requires.1
