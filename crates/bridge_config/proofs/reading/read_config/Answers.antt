use Rattle.bridge_config.proofs.ConfigLaws.{found_of, only_of}
use Rattle.bridge_config.proofs.reading.read_config.Goals as goal

pub returns-clause-found : goal.returns-clause-found
returns-clause-found c = found_of c.args.text.now c.read_text.result c.read_text.ensures

pub returns-clause-only : goal.returns-clause-only
returns-clause-only c = λ configuration spelled. only_of c.args.text.now configuration c.read_text.result spelled c.read_text.ensures
