use Rattle.std.proofs.Common.{inl, inr}
use Rattle.session_store.specs.Stands.{header_in}
use Rattle.club_disk.proofs.Refusing.{refuses_reading}
use Rattle.club_commands.proofs.check.check_disk.Goals as goal

pub returns-in-Ok : goal.returns-in-Ok
returns-in-Ok g c =
    let found = c.in-Ok.found in
    inl (
      c.seen_text.result.bytes,
      (c.read_state.ensures.quiet, (found.state, found.format, found.epoch, found.sector, found.records, c.in-Ok.ensures.seen, c.seen_text.ensures)),
      rw c.as_str.ensures.value at c.write_output.ensures,
    )

pub returns-in-Err : goal.returns-in-Err
returns-in-Err g c =
    let read = c.read_state.new.disk in
    let refused = refuses_reading g.D.SectorDisk.disk header_in c.args.disk.now read c.read_state.result c.in-Err.fault c.in-Err.is
    c.read_state.ensures.quiet c.read_state.ensures.too_small c.in-Err.ensures.unseen in
    inr (read, c.in-Err.fault, refused, c.check_refused.ensures)
