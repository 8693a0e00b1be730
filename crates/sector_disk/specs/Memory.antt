-- What a disk in memory means.
use Rattle.std.specs.Prelude.{◌≡◌, ℕ, length}
use Rattle.sector_disk.specs.Disk.{Disk}
use Rattle.sector_disk.specs.Held.{SectorValue, newest, sector_at, IsImage, LeftSince, newest_left, left_now, left_only_now}
use Rattle.sector_disk.specs.declared.memory.MemoryDisk.{MemoryDisk}

-- what sector k holds
abbrev pub held : MemoryDisk → ℕ → SectorValue
held m k = sector_at m.sectors.items k

-- each sector k holds what this made of what it held
abbrev pub IsHeld : MemoryDisk → MemoryDisk → (ℕ → SectorValue → SectorValue) → Type 0
IsHeld old new step = (k : ℕ) → held new k ≡ step k (held old k)

-- It is honest. Its clock counts its writes and syncs.
abbrev pub memory_disk : Disk MemoryDisk
memory_disk = record {
  honest = λ m. Unit {0};
  count = λ m. length m.sectors.items;
  reads = λ m k. newest (held m k);
  may_leave = λ m c. IsImage (held m) c;
  moment = λ m. length m.events.items;
  left_since = λ m t c. LeftSince (held m) m.events.items t c;
  faults = λ m. m.faults;
  reads_left = λ m honest. newest_left (held m);
  counts_now = λ m t c honest le left. left_now (held m) m.events.items m.replayed t c le left;
  only_now = λ m c honest left. left_only_now (held m) m.events.items m.replayed c left;
}
