use Rattle.session_store.specs.Stands.{header_in}
use Rattle.club_disk.proofs.Refusing.{refuses_reading}
use Rattle.club_disk.proofs.stored_session.read_disk.Goals as goal

pub returns-in-Ok-clause-read : goal.returns-in-Ok-clause-read
returns-in-Ok-clause-read g c = record {
  quiet = c.read_state.ensures.quiet;
  no_fault = c.in-Ok.ensures.seen.no_fault;
  stands = c.in-Ok.ensures.state;
}

pub returns-in-Err-clause-fault : goal.returns-in-Err-clause-fault
returns-in-Err-clause-fault g c =
    refuses_reading g.D.SectorDisk.disk header_in c.args.disk.now c.read_state.new.disk c.read_state.result c.in-Err.fault c.in-Err.is
    c.read_state.ensures.quiet c.read_state.ensures.too_small c.in-Err.ensures.unseen
