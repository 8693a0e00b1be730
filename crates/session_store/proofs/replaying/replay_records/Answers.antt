use Rattle.std.proofs.Common.{◌+◌, inl, refl, sym, ap, ◌∙◌, arith}
use Rattle.std.proofs.lemmas.Result.{err_from_is_err_and}
use Rattle.sector_disk.proofs.RunLaws.{quiet_joins}
use Rattle.session_store.proofs.ReplayLemmas.{record-missing, record-damaged, record-refused, record-taken, records-end}
use Rattle.session_store.specs.Form.{entry_in}
use Rattle.session_store.proofs.LookingLemmas.{holds-more}
use Rattle.session_store.proofs.OpeningLemmas.{found-damaged}
use Rattle.session_store.proofs.replaying.replay_records.Goals as goal

pub returns-in_err-read_record-clause-fault : goal.returns-in_err-read_record-clause-fault
returns-in_err-read_record-clause-fault g c =
    let p = err_from_is_err_and c.from_residual.result c.from_residual.ensures.1 in
    rw (p.1, p.2) (inl (refl, omega (arith, c.in_err-read_record.ensures.fault, c.loop-number.invariant.no_fault)))

pub returns-in_err-read_record-clause-quiet : goal.returns-in_err-read_record-clause-quiet
returns-in_err-read_record-clause-quiet g c = quiet_joins g.D.SectorDisk.disk _ _ _ c.loop-number.invariant.quiet c.read_record.ensures.quiet

pub returns-in-Missing-clause-quiet : goal.returns-in-Missing-clause-quiet
returns-in-Missing-clause-quiet g c = quiet_joins g.D.SectorDisk.disk _ _ _ c.loop-number.invariant.quiet c.read_record.ensures.quiet

pub returns-in-Missing-clause-replayed : goal.returns-in-Missing-clause-replayed
returns-in-Missing-clause-replayed g c = λ honest.
    let so_far = c.loop-number.invariant in
    let reads = (so_far.quiet.only_read honest).reads (1024 + c.loop-number.number) in
    let entry = sym c.in-Missing.is ∙ c.in_ok-read_record.ensures.entry (so_far.quiet.remains.stays_honest honest) in
    so_far.replayed honest
    ∙ record-missing g.K.Kept.kept c.args.format (g.D.SectorDisk.disk.reads c.args.disk.now) c.args.epoch c.loop-number.number c.loop-number.state _ reads entry

pub returns-in-Damaged-clause-quiet : goal.returns-in-Damaged-clause-quiet
returns-in-Damaged-clause-quiet g c = quiet_joins g.D.SectorDisk.disk _ _ _ c.loop-number.invariant.quiet c.read_record.ensures.quiet

pub returns-in-Damaged-clause-fault : goal.returns-in-Damaged-clause-fault
returns-in-Damaged-clause-fault g c =
    found-damaged _ _ _ _ (c.in_ok-read_record.ensures.no_fault ∙ c.loop-number.invariant.no_fault) _ _ refl
    (λ honest.
    let so_far = c.loop-number.invariant in
    let reads = (so_far.quiet.only_read honest).reads (1024 + c.loop-number.number) in
    let entry = sym c.in-Damaged.is ∙ c.in_ok-read_record.ensures.entry (so_far.quiet.remains.stays_honest honest) in
    so_far.replayed honest
    ∙ record-damaged g.K.Kept.kept c.args.format (g.D.SectorDisk.disk.reads c.args.disk.now) c.args.epoch c.loop-number.number c.loop-number.state _ reads
    c.loop-number-test.true entry)

pub returns-in-Err-clause-fault : goal.returns-in-Err-clause-fault
returns-in-Err-clause-fault g c =
    found-damaged _ _ _ _ (c.in_ok-read_record.ensures.no_fault ∙ c.loop-number.invariant.no_fault) _ _ refl
    (λ honest.
    let so_far = c.loop-number.invariant in
    let reads = (so_far.quiet.only_read honest).reads (1024 + c.loop-number.number) in
    let entry = sym c.in-Holds.is ∙ c.in_ok-read_record.ensures.entry (so_far.quiet.remains.stays_honest honest) in
    so_far.replayed honest
    ∙ record-refused g.K.Kept.kept c.args.format (g.D.SectorDisk.disk.reads c.args.disk.now) c.args.epoch c.loop-number.number c.loop-number.state _ reads
    c.loop-number-test.true c.in-Holds.action entry _ c.in-Err.ensures.step)

pub loop-number-preserved : goal.loop-number-preserved
loop-number-preserved g c =
    let so_far = c.loop-number.invariant in
    record {
      quiet = quiet_joins g.D.SectorDisk.disk _ _ _ so_far.quiet c.read_record.ensures.quiet;
      no_fault = c.in_ok-read_record.ensures.no_fault ∙ so_far.no_fault;
      same = c.in-Ok.ensures.same;
      held = λ honest.
          let reads = (so_far.quiet.only_read honest).reads (1024 + c.loop-number.number) in
          let entry = sym c.in-Holds.is ∙ c.in_ok-read_record.ensures.entry (so_far.quiet.remains.stays_honest honest) in
          holds-more g.K.Kept.kept (g.D.SectorDisk.disk.reads c.args.disk.now) c.args.format c.args.epoch c.loop-number.number (so_far.held honest)
          (c.in-Holds.action, ap (entry_in g.K.Kept.kept c.args.format c.args.epoch c.loop-number.number) (sym reads) ∙ sym entry);
      replayed = λ honest.
          let reads = (so_far.quiet.only_read honest).reads (1024 + c.loop-number.number) in
          let entry = sym c.in-Holds.is ∙ c.in_ok-read_record.ensures.entry (so_far.quiet.remains.stays_honest honest) in
          so_far.replayed honest
          ∙ record-taken g.K.Kept.kept c.args.format (g.D.SectorDisk.disk.reads c.args.disk.now) c.args.epoch c.loop-number.number c.loop-number.state _ reads
          c.loop-number-test.true c.in-Holds.action entry _ c.in-Ok.ensures.step;
    }

pub returns-clause-replayed : goal.returns-clause-replayed
returns-clause-replayed g c = λ honest.
    c.loop-number.invariant.replayed honest
    ∙ records-end g.K.Kept.kept c.args.format (g.D.SectorDisk.disk.reads c.args.disk.now) c.args.epoch c.loop-number.number c.loop-number.state
    (omega (arith, c.loop-number-test.false))

pub returns-in-Err-clause-quiet : goal.returns-in-Err-clause-quiet
returns-in-Err-clause-quiet g c = quiet_joins g.D.SectorDisk.disk _ _ _ c.loop-number.invariant.quiet c.read_record.ensures.quiet

pub returns-in-Missing-clause-counted : goal.returns-in-Missing-clause-counted
returns-in-Missing-clause-counted g c = λ honest.
    let so_far = c.loop-number.invariant in
    let reads = (so_far.quiet.only_read honest).reads (1024 + c.loop-number.number) in
    let entry = sym c.in-Missing.is ∙ c.in_ok-read_record.ensures.entry (so_far.quiet.remains.stays_honest honest) in
    record {
      few = omega (arith, c.loop-number-test.true);
      held = so_far.held honest;
      ends = λ room. ap (entry_in g.K.Kept.kept c.args.format c.args.epoch c.loop-number.number) (sym reads) ∙ sym entry;
    }

pub returns-clause-counted : goal.returns-clause-counted
returns-clause-counted g c = λ honest. record {
  few = omega arith;
  held = λ k below. c.loop-number.invariant.held honest k (omega (arith, below, c.loop-number-test.false));
  ends = λ room. absurd (omega (arith, room));
}
