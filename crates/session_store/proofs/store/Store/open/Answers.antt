use Rattle.std.proofs.Common.{ap, arith}
use Rattle.session_store.specs.ReadFaults.{store_fault}
use Rattle.session_store.proofs.OpenLemmas.{opens-from, refuses-unread, refuses-unwritten}
use Rattle.session_store.proofs.store.Store.open.Goals as goal

pub returns-then-count-lt-SECTORS-clause-refuses : goal.returns-then-count-lt-SECTORS-clause-refuses
returns-then-count-lt-SECTORS-clause-refuses g c = λ large. absurd (omega (arith, large, c.if-count-lt-SECTORS.true, c.count.ensures.count))

pub returns-in-Err-clause-refuses : goal.returns-in-Err-clause-refuses
returns-in-Err-clause-refuses g c = λ large.
    rw c.from.ensures (refuses-unread g.K.Kept.kept g.D.SectorDisk.disk _ _ _ c.recover_behind_barrier.ensures.quiet c.in-Err.ensures.unread
    (λ honest other. c.in-Err.ensures.at_rest honest (λ same. other (ap store_fault same))))

pub returns-in-Err-begin-clause-refuses : goal.returns-in-Err-begin-clause-refuses
returns-in-Err-begin-clause-refuses g c = λ large.
    refuses-unwritten g.K.Kept.kept g.D.SectorDisk.disk g.met.K.Kept.lawful _ _ _ _ _ _ _ c.recover_behind_barrier.ensures.quiet
    c.in-Ok.ensures.read c.in-Ok.ensures.settled c.in-Err-begin.ensures.fault

pub returns-in-Ok-begin-clause-opens : goal.returns-in-Ok-begin-clause-opens
returns-in-Ok-begin-clause-opens g c =
    opens-from g.K.Kept.kept g.D.SectorDisk.disk g.met.K.Kept.lawful _ _ _ _ _ _ c.recover_behind_barrier.ensures.quiet
    c.in-Ok.ensures.read c.in-Ok.ensures.settled c.in-Ok-begin.ensures.begins
