use Rattle.std.proofs.Common.{◌≤◌, ◌∙◌, arith}
use Rattle.std.proofs.lemmas.Result.{err_from_is_err_and}
use Rattle.sector_disk.proofs.RunLaws.{remains_joins}
use Rattle.session_store.proofs.FormatLemmas.{behind_snapshot, first_settled, settled-epoch, first_snapshot, first_format}
use Rattle.session_store.proofs.formatting.write_first.Goals as goal

pub returns-in_err-write_snapshot-clause-fault : goal.returns-in_err-write_snapshot-clause-fault
returns-in_err-write_snapshot-clause-fault g c =
    let disk = g.D.SectorDisk.disk in
    let p = err_from_is_err_and c.from_residual-in_err-write_snapshot.result c.from_residual-in_err-write_snapshot.ensures.1 in
    rw p.1 (record {
      remains = remains_joins disk _ _ _ c.clear.ensures.remains c.write_snapshot.ensures.remains;
      fault = omega (arith, c.in_ok-clear.ensures.no_fault, c.in_err-write_snapshot.ensures.fault);
      behind = λ honest.
          let cleared = c.clear.ensures.behind honest in
          behind_snapshot disk g.K.Kept.kept _ _ _ 1 c.args.state.now cleared (c.write_snapshot.ensures.any_moment cleared.honest);
    })

pub returns-clause-formatted : goal.returns-clause-formatted
returns-clause-formatted g c =
    let kept = g.K.Kept.kept in
    let disk = g.D.SectorDisk.disk in
    let state = c.args.state.now in
    let remain = remains_joins disk _ _ _ c.clear.ensures.remains c.write_snapshot.ensures.remains in
    let large : 2048 ≤ disk.count c.write_snapshot.new.disk = omega (arith, c.requires, remain.count) in
    record {
      remains = remain;
      large = large;
      no_fault = c.in_ok-write_snapshot.ensures.no_fault ∙ c.in_ok-clear.ensures.no_fault;
      epoch = λ honest image left.
          settled-epoch kept 1 0 state image
          (first_settled kept disk g.met.K.Kept.lawful _ _ state c.write_snapshot.ensures.is_state
          (c.in_ok-clear.ensures.cleared honest) (c.in_ok-write_snapshot.ensures.written (c.clear.ensures.remains.stays_honest honest)) image left);
      format = λ honest.
          first_format kept disk g.met.K.Kept.lawful _ _ state c.write_snapshot.ensures.is_state
          (c.in_ok-clear.ensures.cleared honest) (c.in_ok-write_snapshot.ensures.written (c.clear.ensures.remains.stays_honest honest));
      stands = λ honest.
          let cleared = c.clear.ensures.remains.stays_honest honest in
          (first_snapshot kept disk g.met.K.Kept.lawful _ _ state c.write_snapshot.ensures.is_state
          (c.write_snapshot.ensures.remains.stays_honest cleared) large (c.in_ok-clear.ensures.cleared honest)
          (c.in_ok-write_snapshot.ensures.written cleared)).1;
      sound = λ honest.
          let cleared = c.clear.ensures.remains.stays_honest honest in
          (first_snapshot kept disk g.met.K.Kept.lawful _ _ state c.write_snapshot.ensures.is_state
          (c.write_snapshot.ensures.remains.stays_honest cleared) large (c.in_ok-clear.ensures.cleared honest)
          (c.in_ok-write_snapshot.ensures.written cleared)).0;
      behind = λ honest.
          let cleared = c.clear.ensures.behind honest in
          behind_snapshot disk kept _ _ _ 1 state cleared (c.write_snapshot.ensures.any_moment cleared.honest);
    }
