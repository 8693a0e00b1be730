use Rattle.std.proofs.Common.{inl, inr, refl}
use Rattle.session_store.specs.Stands.{header_in}
use Rattle.club_disk.proofs.Refusing.{refuses_reading}
use Rattle.club_commands.proofs.check_two.check_both.Goals as goal

pub returns-in-Err : goal.returns-in-Err
returns-in-Err g c =
    let read = c.read_state.new.disk in
    let cause = c.in-Err.fault in
    let refused = refuses_reading g.D.SectorDisk.disk header_in c.args.disk.now read c.read_state.result cause c.in-Err.is
    c.read_state.ensures.quiet c.read_state.ensures.too_small c.in-Err.ensures.unseen in
    inl (refl, (read, cause, refused, c.check_refused.ensures))

pub returns-in-Err-read_state : goal.returns-in-Err-read_state
returns-in-Err-read_state g c =
    let read = c.read_state-in-Ok.new.disk in
    let cause = c.in-Err-read_state.fault in
    let refused = refuses_reading g.D.SectorDisk.disk header_in c.args.copy.now read c.read_state-in-Ok.result cause c.in-Err-read_state.is
    c.read_state-in-Ok.ensures.quiet c.read_state-in-Ok.ensures.too_small c.in-Err-read_state.ensures.unseen in
    inr (inl (c.in-Ok.ours, cause, (c.read_state.ensures.quiet, c.in-Ok.ensures.seen), refused, c.tell_alone.ensures))

pub returns-in-Ok-read_state : goal.returns-in-Ok-read_state
returns-in-Ok-read_state g c =
    inr (inr (
      c.in-Ok.ours,
      c.in-Ok-read_state.theirs,
      (c.read_state.ensures.quiet, c.in-Ok.ensures.seen),
      (c.read_state-in-Ok.ensures.quiet, c.in-Ok-read_state.ensures.seen),
      c.tell_two.ensures,
    ))
