use Rattle.session_store.proofs.FormerLemmas.{former_law}
use Rattle.session_store.proofs.laws.former_law.Goals as goal

pub returns : goal.returns
returns g c = former_law g.K.Kept.kept
