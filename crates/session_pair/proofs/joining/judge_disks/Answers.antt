use Rattle.std.proofs.Common.{inl, inr, refl}
use Rattle.std.proofs.lemmas.Result.{IfOk-weaker, IfErr-weaker}
use Rattle.sector_disk.proofs.RunLaws.{quiet}
use Rattle.session_pair.specs.Joining.{IsJudged, IsUnjudged, SeesBoth}
use Rattle.session_pair.specs.Unjoined.{CannotJudge}
use Rattle.session_pair.proofs.JoiningLemmas.{unread}
use Rattle.session_pair.proofs.joining.judge_disks.Goals as goal

pub returns-in-Ok-read_state-clause-judged : goal.returns-in-Ok-read_state-clause-judged
returns-in-Ok-read_state-clause-judged g c =
    let ours = c.in-Ok.ours in
    let theirs = c.in-Ok-read_state.theirs in
    IfOk-weaker c.judge.result (IsJudged ours.state ours.epoch ours.records theirs.state theirs.epoch theirs.records)
    (SeesBoth g.D.SectorDisk.disk c.args.disk.now c.args.copy.now c.read_state.new.disk c.read_state-in-Ok.new.disk) (λ judged so. record {
      s = ours.state;
      format = ours.format;
      epoch = ours.epoch;
      sector = ours.sector;
      records = ours.records;
      seen = c.in-Ok.ensures.seen;
      quiet = c.read_state.ensures.quiet;
      t = theirs.state;
      other_format = theirs.format;
      other_epoch = theirs.epoch;
      other_sector = theirs.sector;
      other_records = theirs.records;
      other_seen = c.in-Ok-read_state.ensures.seen;
      other_quiet = c.read_state-in-Ok.ensures.quiet;
      judged_so = so;
    }) c.judge.ensures.judged

pub returns-in-Err-clause-copy : goal.returns-in-Err-clause-copy
returns-in-Err-clause-copy g c = quiet g.D.SectorDisk.disk c.args.copy.now

pub returns-in-Ok-read_state-clause-fault : goal.returns-in-Ok-read_state-clause-fault
returns-in-Ok-read_state-clause-fault g c =
    let ours = c.in-Ok.ours in
    let theirs = c.in-Ok-read_state.theirs in
    IfErr-weaker c.judge.result (IsUnjudged ours.state ours.epoch theirs.state theirs.epoch)
    (CannotJudge g.D.SectorDisk.disk c.args.disk.now c.args.copy.now c.read_state.new.disk c.read_state-in-Ok.new.disk) (λ fault why. inr (inr (
      ours,
      theirs,
      (c.read_state.ensures.quiet, c.in-Ok.ensures.seen),
      (c.read_state-in-Ok.ensures.quiet, c.in-Ok-read_state.ensures.seen),
      why,
    ))) c.judge.ensures.fault

pub returns-in-Err-read_state-clause-fault : goal.returns-in-Err-read_state-clause-fault
returns-in-Err-read_state-clause-fault g c =
    inr (inl (
      c.in-Err-read_state.fault,
      c.in-Ok.ours,
      refl,
      (c.read_state.ensures.quiet, c.in-Ok.ensures.seen),
      unread g.D.SectorDisk.disk c.args.copy.now c.read_state-in-Ok.new.disk c.read_state-in-Ok.result
          c.in-Err-read_state.fault c.in-Err-read_state.is c.read_state-in-Ok.ensures.quiet c.read_state-in-Ok.ensures.too_small
          c.in-Err-read_state.ensures.unseen,
    ))

pub returns-in-Err-clause-fault : goal.returns-in-Err-clause-fault
returns-in-Err-clause-fault g c =
    inl (
      c.in-Err.fault,
      refl,
      unread g.D.SectorDisk.disk c.args.disk.now c.read_state.new.disk c.read_state.result c.in-Err.fault
          c.in-Err.is c.read_state.ensures.quiet c.read_state.ensures.too_small c.in-Err.ensures.unseen,
    )
