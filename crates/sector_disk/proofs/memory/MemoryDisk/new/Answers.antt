use Rattle.std.proofs.Common.{sym, ap}
use Rattle.sector_disk.specs.Held.{SectorValue, sector_at}
use Rattle.sector_disk.proofs.Images.{only_newest, all_cut}
use Rattle.sector_disk.proofs.memory.MemoryDisk.new.Goals as goal

pub returns-clause-only : goal.returns-clause-only
returns-clause-only c =
    only_newest (sector_at c.loop-made.sectors.items)
    (λ k. ap (λ (h : SectorValue). h.since) (sym (all_cut _ _ c.loop-made.sectors.items c.loop-made.invariant k)))
