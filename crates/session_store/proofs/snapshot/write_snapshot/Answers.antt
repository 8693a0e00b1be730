use Rattle.std.proofs.Common.{◌∙◌, arith}
use Rattle.std.proofs.lemmas.Result.{err_from_is_err_and}
use Rattle.sector_disk.proofs.RunLaws.{syncs_on, remains_on}
use Rattle.session_store.proofs.RunLemmas.{before_header, parts_synced, header_on, header_synced}
use Rattle.session_store.proofs.snapshot.write_snapshot.Goals as goal

pub returns-in_err-sync : goal.returns-in_err-sync
returns-in_err-sync g c =
    let disk = g.D.SectorDisk.disk in
    let p = err_from_is_err_and c.from_residual-in_err-sync.result c.from_residual-in_err-sync.ensures.1 in
    rw p.1 (record {
      remains = remains_on disk _ _ _ _ c.write_parts.ensures.remains c.sync.ensures.called;
      fault = omega (arith, c.in_ok-write_parts.ensures.no_fault, c.in_err-sync.ensures.called.faults_err);
      no_fault = tt;
      any_moment = λ honest.
          let written = c.in_ok-write_parts.ensures.any_moment honest in
          before_header disk g.K.Kept.kept _ c.args.epoch c.args.state.now _ _
          (syncs_on disk _ _ _ _ _ written c.sync.ensures.called (c.sync.ensures.syncs written.honest));
      written = λ honest. tt;
      is_state = c.write_parts.ensures.state;
    })

pub returns-in_err-write_header : goal.returns-in_err-write_header
returns-in_err-write_header g c =
    let disk = g.D.SectorDisk.disk in
    let p = err_from_is_err_and c.from_residual-in_err-write_header.result c.from_residual-in_err-write_header.ensures.1 in
    rw p.1 (record {
      remains = remains_on disk _ _ _ _ (remains_on disk _ _ _ _ c.write_parts.ensures.remains c.sync.ensures.called) c.write_header.ensures.called;
      fault = omega (arith, c.in_ok-write_parts.ensures.no_fault, c.in_ok-sync.ensures.called.faults_ok, c.in_err-write_header.ensures.called.faults_err);
      no_fault = tt;
      any_moment = λ honest.
          let written = c.in_ok-write_parts.ensures.any_moment honest in
          let synced = syncs_on disk _ _ _ _ _ written c.sync.ensures.called (c.sync.ensures.syncs written.honest) in
          let there = parts_synced disk g.K.Kept.kept (disk.may_leave c.args.disk.now) c.args.epoch c.args.state.now _ _ _ written.honest
          (c.in_ok-write_parts.ensures.written honest) c.in_ok-sync.ensures.syncs in
          header_on disk g.K.Kept.kept _ c.args.epoch c.args.state.now _ _ _ _ synced there c.write_header.ensures;
      written = λ honest. tt;
      is_state = c.write_parts.ensures.state;
    })

pub returns-in_err-sync-2 : goal.returns-in_err-sync-2
returns-in_err-sync-2 g c =
    let disk = g.D.SectorDisk.disk in
    let p = err_from_is_err_and c.from_residual-in_err-sync-2.result c.from_residual-in_err-sync-2.ensures.1 in
    rw p.1 (record {
      remains = remains_on disk _ _ _ _ (remains_on disk _ _ _ _ (remains_on disk _ _ _ _ c.write_parts.ensures.remains c.sync.ensures.called) c.write_header.ensures.called) c.sync-2.ensures.called;
      fault = omega (arith, c.in_ok-write_parts.ensures.no_fault, c.in_ok-sync.ensures.called.faults_ok, c.in_ok-write_header.ensures.called.faults_ok, c.in_err-sync-2.ensures.called.faults_err);
      no_fault = tt;
      any_moment = λ honest.
          let written = c.in_ok-write_parts.ensures.any_moment honest in
          let synced = syncs_on disk _ _ _ _ _ written c.sync.ensures.called (c.sync.ensures.syncs written.honest) in
          let there = parts_synced disk g.K.Kept.kept (disk.may_leave c.args.disk.now) c.args.epoch c.args.state.now _ _ _ written.honest
          (c.in_ok-write_parts.ensures.written honest) c.in_ok-sync.ensures.syncs in
          let headed = header_on disk g.K.Kept.kept _ c.args.epoch c.args.state.now _ _ _ _ synced there c.write_header.ensures in
          syncs_on disk _ _ _ _ _ headed c.sync-2.ensures.called (c.sync-2.ensures.syncs headed.honest);
      written = λ honest. tt;
      is_state = c.write_parts.ensures.state;
    })

pub returns : goal.returns
returns g c =
    let disk = g.D.SectorDisk.disk in record {
      remains = remains_on disk _ _ _ _ (remains_on disk _ _ _ _ (remains_on disk _ _ _ _ c.write_parts.ensures.remains c.sync.ensures.called) c.write_header.ensures.called) c.sync-2.ensures.called;
      fault = tt;
      no_fault = c.in_ok-sync-2.ensures.called.faults_ok ∙ c.in_ok-write_header.ensures.called.faults_ok ∙ c.in_ok-sync.ensures.called.faults_ok ∙ c.in_ok-write_parts.ensures.no_fault;
      any_moment = λ honest.
          let written = c.in_ok-write_parts.ensures.any_moment honest in
          let synced = syncs_on disk _ _ _ _ _ written c.sync.ensures.called (c.sync.ensures.syncs written.honest) in
          let there = parts_synced disk g.K.Kept.kept (disk.may_leave c.args.disk.now) c.args.epoch c.args.state.now _ _ _ written.honest
          (c.in_ok-write_parts.ensures.written honest) c.in_ok-sync.ensures.syncs in
          let headed = header_on disk g.K.Kept.kept _ c.args.epoch c.args.state.now _ _ _ _ synced there c.write_header.ensures in
          syncs_on disk _ _ _ _ _ headed c.sync-2.ensures.called (c.sync-2.ensures.syncs headed.honest);
      written = λ honest.
          let written = c.in_ok-write_parts.ensures.any_moment honest in
          let synced = syncs_on disk _ _ _ _ _ written c.sync.ensures.called (c.sync.ensures.syncs written.honest) in
          let there = parts_synced disk g.K.Kept.kept (disk.may_leave c.args.disk.now) c.args.epoch c.args.state.now _ _ _ written.honest
          (c.in_ok-write_parts.ensures.written honest) c.in_ok-sync.ensures.syncs in
          header_synced disk g.K.Kept.kept _ c.args.epoch c.args.state.now _ _ _ _ _ _ synced there c.in_ok-write_header.ensures
          c.in_ok-sync-2.ensures.syncs;
      is_state = c.write_parts.ensures.state;
    }
