use Rattle.std.proofs.Common.{refl}
use Rattle.sector_disk.specs.Held.{sector_at}
use Rattle.sector_disk.specs.declared.memory.events.Event.TheVariants.{Write}
use Rattle.sector_disk.proofs.Events.{replayed_to, push_elapses}
use Rattle.sector_disk.proofs.Images.{is_written}
use Rattle.sector_disk.proofs.MemoryCalls.{called_ok, called_err, writes_ok, writes_err}
use Rattle.sector_disk.proofs.memory.MemoryDiskSectorDisk.write.Goals as goal

pub returns-in-Err-clause-called : goal.returns-in-Err-clause-called
returns-in-Err-clause-called c = called_err _ _ _ _ c.counted.ensures.same c.in-Err.ensures.not_written c.in-Err.ensures.no_event c.counted.ensures.err

pub returns-in-Err-clause-writes : goal.returns-in-Err-clause-writes
returns-in-Err-clause-writes c = λ honest. writes_err _ _ _ _ _ _ c.counted.ensures.same c.in-Err.ensures.not_written

pub invariant_of-self-in_default-clause-replayed : goal.invariant_of-self-in_default-clause-replayed
invariant_of-self-in_default-clause-replayed c =
    let did = c.in_default.ensures in
    replayed_to (sector_at c.args.self.now.sectors.items) (sector_at c.keep_write.new.sectors.items) c.args.self.now.events.items _ (Write c.args.i c.args.bytes.now) did.event did.written c.args.self.now.replayed

pub returns-clause-called : goal.returns-clause-called
returns-clause-called c = called_ok _ _ _ c.keep_write.ensures.count refl (push_elapses _ _ _ c.in_default.ensures.event c.in_default.ensures.written)

pub returns-clause-writes : goal.returns-clause-writes
returns-clause-writes c = λ honest. writes_ok _ _ _ _ _ (is_written _ _ _ _ c.in_default.ensures.event c.in_default.ensures.written)
