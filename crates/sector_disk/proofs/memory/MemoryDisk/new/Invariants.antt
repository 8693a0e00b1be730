use Rattle.std.proofs.Common.{◌≡◌}
use Rattle.std.specs.Prelude.{replicate}
use Rattle.sector_disk.specs.Held.{cut_to}
use Rattle.sector_disk.proofs.memory.MemoryDisk.new.Given as goal

abbrev pub invariant-loop-made : goal.invariant-loop-made
invariant-loop-made l = l.sectors.items ≡ replicate l._made (cut_to (replicate 512 0))
