use Rattle.std.proofs.Common.{◌≡◌, ◌<◌, ◌≤◌, ◌+◌, ◌⊎◌, [], false}
use Rattle.session_store.specs.Store.{Continues}
use Rattle.session_store.proofs.settling.rise_above.Given as goal

abbrev pub invariant-loop-begun : goal.invariant-loop-begun
invariant-loop-begun g l = record {
  continues : Continues g.K.Kept.kept g.D.SectorDisk.disk l.fn.store [] l.store;
  epoch : l.store.epoch ≡ l._begun;
  failed : l.store.failed ≡ l.fn.store.failed;
  state : l.store.state ≡ l.fn.store.state;
  no_fault : g.D.SectorDisk.disk.faults l.store.disk ≡ g.D.SectorDisk.disk.faults l.fn.store.disk;
  least : l.fn.store.epoch ≤ l._begun;
  most : (l._begun ≡ l.fn.store.epoch) ⊎ (l._begun ≤ l.epoch + 2);
  so_far : (l.store ≡ l.fn.store) ⊎ ((l.fn.store.failed ≡ false) × (l.fn.store.epoch < l._begun));
}
