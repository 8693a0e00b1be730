use Rattle.std.proofs.Common.{refl}
use Rattle.sector_disk.specs.Held.{sector_at}
use Rattle.sector_disk.specs.declared.memory.events.Event.TheVariants.{Sync}
use Rattle.sector_disk.proofs.Events.{replayed_to, push_elapses}
use Rattle.sector_disk.proofs.Images.{is_synced}
use Rattle.sector_disk.proofs.MemoryCalls.{called_ok, called_err, syncs_ok, syncs_err}
use Rattle.sector_disk.proofs.memory.MemoryDiskSectorDisk.sync.Goals as goal

pub returns-in-Err-clause-called : goal.returns-in-Err-clause-called
returns-in-Err-clause-called c = called_err _ _ _ _ c.counted.ensures.same c.in-Err.ensures.not_synced c.in-Err.ensures.no_event c.counted.ensures.err

pub returns-in-Err-clause-syncs : goal.returns-in-Err-clause-syncs
returns-in-Err-clause-syncs c = λ honest. syncs_err _ _ _ _ c.counted.ensures.same c.in-Err.ensures.not_synced

pub invariant_of-self-in_default-clause-replayed : goal.invariant_of-self-in_default-clause-replayed
invariant_of-self-in_default-clause-replayed c =
    let did = c.in_default.ensures in
    replayed_to (sector_at c.args.self.now.sectors.items) (sector_at c.keep_sync.new.sectors.items) c.args.self.now.events.items _ Sync did.event did.synced c.args.self.now.replayed

pub returns-clause-called : goal.returns-clause-called
returns-clause-called c = called_ok _ _ _ c.keep_sync.ensures.count refl (push_elapses _ _ _ c.in_default.ensures.event c.in_default.ensures.synced)

pub returns-clause-syncs : goal.returns-clause-syncs
returns-clause-syncs c = λ honest. syncs_ok _ _ _ (is_synced _ _ c.in_default.ensures.event c.in_default.ensures.synced)
