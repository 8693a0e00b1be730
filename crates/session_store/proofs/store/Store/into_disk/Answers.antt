use Rattle.session_store.proofs.OpenLemmas.{store-sound}
use Rattle.session_store.proofs.store.Store.into_disk.Goals as goal

pub returns-clause-sound : goal.returns-clause-sound
returns-clause-sound g c =
    rw (← c.self.view_is) (λ sound. store-sound g.K.Kept.kept g.D.SectorDisk.disk _ c.self.invariant.large sound)
