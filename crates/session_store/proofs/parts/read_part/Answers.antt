use Rattle.std.proofs.Common.{◌+◌, Some, sym, ap, ◌∙◌, inl, inr, arith}
use Rattle.std.proofs.lemmas.Result.{err_from_is_err_and}
use Rattle.session_store.specs.declared.fault.ReadFault.TheVariants.{Damaged}
use Rattle.session_store.proofs.PartsLemmas.{quiet_read, filled}
use Rattle.session_store.proofs.parts.read_part.Goals as goal

pub returns-in_err-read-clause-quiet : goal.returns-in_err-read-clause-quiet
returns-in_err-read-clause-quiet g c =
    quiet_read g.D.SectorDisk.disk c.args.disk.now c.read.new.self _ _ _ c.read.ensures.called c.read.ensures.reads

pub returns-in_err-read-clause-fault : goal.returns-in_err-read-clause-fault
returns-in_err-read-clause-fault g c =
    let p = err_from_is_err_and c.from_residual.result c.from_residual.ensures.1 in
    rw p.1 (inl (p.2, omega (arith, c.in_err-read.ensures.called.faults_err)))

pub returns-in-None-clause-quiet : goal.returns-in-None-clause-quiet
returns-in-None-clause-quiet g c =
    quiet_read g.D.SectorDisk.disk c.args.disk.now c.read.new.self _ _ _ c.read.ensures.called c.read.ensures.reads

pub returns-in-None-clause-fault : goal.returns-in-None-clause-fault
returns-in-None-clause-fault g c = inr (
  ap (λ at. Damaged (at + 1 + c.args.i)) c.place_of.ensures.place,
  c.in_ok-read.ensures.called.faults_ok,
  λ honest. rw (← c.place_of.ensures.place, ← (c.in_ok-read.ensures.reads honest).given, ← c.part_mark.ensures) (sym c.in-None.ensures.payload),
)

pub returns-in-Some-clause-quiet : goal.returns-in-Some-clause-quiet
returns-in-Some-clause-quiet g c =
    quiet_read g.D.SectorDisk.disk c.args.disk.now c.read.new.self _ _ _ c.read.ensures.called c.read.ensures.reads

pub returns-in-Some-clause-part : goal.returns-in-Some-clause-part
returns-in-Some-clause-part g c = λ honest.
    let full = filled _ _ _ c.in-Some.payload.now c.new-part.ensures c.in-Some.ensures.fits c.try_extend_from_slice.ensures.variant c.try_extend_from_slice.ensures.ok in
    rw (← c.place_of.ensures.place, ← (c.in_ok-read.ensures.reads honest).given, ← c.part_mark.ensures)
    (sym c.in-Some.ensures.payload ∙ ap (λ part. Some part) (sym full))
