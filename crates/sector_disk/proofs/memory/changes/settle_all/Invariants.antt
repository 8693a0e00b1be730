use Rattle.std.proofs.Common.{◌≡◌, ℕ, ◌<◌, ◌≤◌}
use Rattle.sector_disk.specs.Held.{sector_at, settled}
use Rattle.sector_disk.proofs.memory.changes.settle_all.Given as goal

abbrev pub invariant-loop-sector : goal.invariant-loop-sector
invariant-loop-sector l = record {
  settled : (k : ℕ) → k < l.sector-index → sector_at l.sectors k ≡ settled (sector_at l.initial.sectors k);
  same : (k : ℕ) → l.sector-index ≤ k → sector_at l.sectors k ≡ sector_at l.initial.sectors k;
}
