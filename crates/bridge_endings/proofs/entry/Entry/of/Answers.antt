use Rattle.std.proofs.lemmas.List.Elements.{All-replicate}
use Rattle.bridge_endings.specs.SearchValue.{IsFound}
use Rattle.bridge_endings.proofs.entry.Entry.of.Goals as goal

pub returns : goal.returns
returns c = All-replicate IsFound 4 c.args.found c.requires
