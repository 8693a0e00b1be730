use Rattle.std.proofs.Common.{get_or}
use Rattle.sector_disk.specs.Held.{sector_at}
use Rattle.sector_disk.proofs.Images.{only_newest, cut_since, cut_possible}
use Rattle.sector_disk.proofs.memory.MemoryDisk.crash.Goals as goal

pub returns-clause-possible : goal.returns-clause-possible
returns-clause-possible c = cut_possible _ _ (λ k. get_or c.args.picks.now k 0) c.lose_power.ensures.count c.lose_power.ensures.cut

pub returns-clause-only : goal.returns-clause-only
returns-clause-only c =
    only_newest (sector_at c.lose_power.new.sectors.items)
    (cut_since c.args.self.now.sectors.items _ (λ k. get_or c.args.picks.now k 0) c.lose_power.ensures.count c.lose_power.ensures.cut)
