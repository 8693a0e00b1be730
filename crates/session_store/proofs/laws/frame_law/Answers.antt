use Rattle.session_store.proofs.SnapshotLemmas.{frame}
use Rattle.session_store.proofs.laws.frame_law.Goals as goal

pub returns : goal.returns
returns g c = λ a b h is same. (frame g.K.Kept.kept a b h is (λ k below used. same k used)).1
