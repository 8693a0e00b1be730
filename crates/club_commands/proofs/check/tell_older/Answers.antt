use Rattle.std.proofs.Common.{inl, inr}
use Rattle.session_store.specs.Looking.{older_header_in}
use Rattle.club_disk.proofs.Refusing.{refuses_reading}
use Rattle.club_commands.proofs.check.tell_older.Goals as goal

pub returns-in-Ok : goal.returns-in-Ok
returns-in-Ok g c =
    let found = c.in-Ok.found in (
      c.seen_text.result.bytes,
      inl (
        c.read_older_state.ensures.quiet,
        (found.state, found.format, found.epoch, found.sector, found.records, c.in-Ok.ensures.seen, c.seen_text.ensures),
      ),
      rw c.as_str.ensures.value at c.write_output.ensures,
    )

pub returns-in-Err : goal.returns-in-Err
returns-in-Err g c = (
  c.no_older_text.result.bytes,
  inr (
    c.in-Err.fault,
    refuses_reading g.D.SectorDisk.disk older_header_in c.args.disk.now c.read_older_state.new.disk c.read_older_state.result c.in-Err.fault c.in-Err.is
        c.read_older_state.ensures.quiet c.read_older_state.ensures.too_small c.in-Err.ensures.unseen,
    c.no_older_text.ensures,
  ),
  rw c.as_str-in-Err.ensures.value at c.write_output-in-Err.ensures,
)
