use Rattle.std.proofs.Common.{inl, inr}
use Rattle.std.proofs.lemmas.Result.{IfErr-weaker}
use Rattle.session_pair.specs.Unjoined.{IsNotJoined, IsUnopened}
use Rattle.session_pair.proofs.JoiningLemmas.{disk_taken, copy_taken, disk_unopened, copy_unopened, ok_with}
use Rattle.session_pair.proofs.joining.join_disks.Goals as goal

pub returns-then-judged : goal.returns-then-judged
returns-then-judged g c =
    let disk = g.D.SectorDisk.disk in
    let read = c.judge_disks.new.disk in
    let other = c.judge_disks.new.copy in
    let judged = c.in-Ok.judged in
    record {
      joined = ok_with _ _ _ _ c.open_both.result
          (λ joined opened same works. disk_taken disk c.args.disk c.args.copy read other c.in-Ok.judged joined.judged joined.first joined.second
          c.in-Ok.ensures.judged c.if-judged.true same opened works)
          c.open_both.ensures.opened c.open_both.ensures.judged c.open_both.ensures.level;
      fault = IfErr-weaker c.open_both.result (λ e. IsUnopened disk judged.disk_first read other e.disk e.copy e.fault)
          (λ e. IsNotJoined disk c.args.disk c.args.copy e.disk e.copy e.fault)
          (λ e why. inr (read, other, judged, c.in-Ok.ensures.judged, disk_unopened disk read other e.disk e.copy e.fault judged.disk_first c.if-judged.true why))
          c.open_both.ensures.fault;
    }

pub returns-else-judged : goal.returns-else-judged
returns-else-judged g c =
    let disk = g.D.SectorDisk.disk in
    let read = c.judge_disks.new.disk in
    let other = c.judge_disks.new.copy in
    let judged = c.in-Ok.judged in
    record {
      joined = ok_with _ _ _ _ c.open_both-else-judged.result
          (λ joined opened same works. copy_taken disk c.args.disk c.args.copy read other c.in-Ok.judged joined.judged joined.first joined.second
          c.in-Ok.ensures.judged c.if-judged.false same opened works)
          c.open_both-else-judged.ensures.opened c.open_both-else-judged.ensures.judged c.open_both-else-judged.ensures.level;
      fault = IfErr-weaker c.open_both-else-judged.result (λ e. IsUnopened disk judged.disk_first other read e.disk e.copy e.fault)
          (λ e. IsNotJoined disk c.args.disk c.args.copy e.disk e.copy e.fault)
          (λ e why. inr (read, other, judged, c.in-Ok.ensures.judged, copy_unopened disk read other e.disk e.copy e.fault judged.disk_first c.if-judged.false why))
          c.open_both-else-judged.ensures.fault;
    }

pub returns-in-Err-clause-fault : goal.returns-in-Err-clause-fault
returns-in-Err-clause-fault g c = inl (c.in-Err.ensures.fault, c.judge_disks.ensures.disk, c.judge_disks.ensures.copy)
