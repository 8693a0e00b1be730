use Rattle.club_disk.proofs.Refusing.{is_too_small, is_same_disk, refuses_disk}
use Rattle.club_disk.proofs.stored_session.open_session.Goals as goal

pub returns-in-Ok-clause-opened : goal.returns-in-Ok-clause-opened
returns-in-Ok-clause-opened g c =
    let opens = c.in-Ok.ensures.opens in record {
      opened = opens.opened;
      works = opens.works;
      no_records = opens.no_records;
      no_fault = opens.no_fault;
      next_epoch = opens.next_epoch;
    }

pub returns-in-Ok-clause-begins : goal.returns-in-Ok-clause-begins
returns-in-Ok-clause-begins g c = (c.in-Ok.ensures.opens.works, c.in-Ok.ensures.opens.opened.none_pending)

pub returns-in-Err-clause-fault : goal.returns-in-Err-clause-fault
returns-in-Err-clause-fault g c =
    refuses_disk g.D.SectorDisk.disk c.args.disk c.in-Err.disk c.in-Err.fault
    (λ small. (
      is_same_disk c.open.result c.args.disk c.in-Err.disk c.in-Err.fault c.in-Err.is (c.open.ensures.too_small small),
      is_too_small c.open.result c.args.disk c.in-Err.disk c.in-Err.fault c.in-Err.is (c.open.ensures.too_small small),
    ))
    (λ large. c.in-Err.ensures.refuses large)
