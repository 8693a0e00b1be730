use Rattle.std.proofs.Common.{◌≡◌, ℕ, ◌<◌, ◌≤◌, get_or}
use Rattle.sector_disk.specs.Held.{sector_at, picked, cut_to}
use Rattle.sector_disk.proofs.memory.changes.cut_all.Given as goal

abbrev pub invariant-loop-i : goal.invariant-loop-i
invariant-loop-i l = record {
  cut : (k : ℕ) → k < l.i → sector_at l.sectors k ≡ cut_to (picked (sector_at l.initial.sectors k) (get_or l.picks k 0));
  same : (k : ℕ) → l.i ≤ k → sector_at l.sectors k ≡ sector_at l.initial.sectors k;
}
