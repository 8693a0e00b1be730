use Rattle.std.proofs.Common.{◌≡◌, ◌+◌, ℕ, [], false}
use Rattle.table_server.specs.Faulted.{FailsWithDisk}
use Rattle.club_commands.specs.Serving.{ServesEach}
use Rattle.club_commands.proofs.serving.serve_connections.Given as goal

abbrev pub invariant-loop-count : goal.invariant-loop-count
invariant-loop-count g l = record {
  served : (count : ℕ) × (count + l.left ≡ l.fn.count)
      × ServesEach g.D.SectorDisk.disk g.N.Stream.Read.remaining g.N.Stream.Write.contents count l.fn.store l.store;
  ready : l.store.failed ≡ false → l.store.pending ≡ [];
  faults : FailsWithDisk g.D.SectorDisk.disk l.fn.store l.store;
}

abbrev pub decreases-loop-count : goal.decreases-loop-count
decreases-loop-count g l = l.left
