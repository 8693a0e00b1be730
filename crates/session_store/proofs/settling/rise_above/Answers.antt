use Rattle.std.proofs.Common.{◌+◌, [], inl, inr, refl, sym, ap, arith, ◌∙◌}
use Rattle.std.proofs.lemmas.Result.{err_from_is_err_and}
use Rattle.session_store.proofs.CallLaws.{continues_begins, continues_joins}
use Rattle.session_store.proofs.SettlingLemmas.{cannot-rise}
use Rattle.session_store.proofs.settling.rise_above.Goals as goal

pub loop-begun-init : goal.loop-begun-init
loop-begun-init g c = record {
  continues = continues_begins g.K.Kept.kept g.D.SectorDisk.disk c.args.store.now;
  epoch = sym c.epoch-own.ensures.epoch;
  failed = refl;
  state = refl;
  no_fault = refl;
  least = omega (arith, c.epoch-own.ensures.epoch);
  most = inl c.epoch-own.ensures.epoch;
  so_far = inl refl;
}

pub loop-begun-preserved : goal.loop-begun-preserved
loop-begun-preserved g c =
    let did = c.in_ok-checkpoint.ensures.answer in
    let before = c.loop-begun.invariant in
    record {
      continues = continues_joins g.K.Kept.kept g.D.SectorDisk.disk c.args.store.now c.loop-begun.store c.checkpoint.new.self [] []
          before.continues c.checkpoint.ensures.continues;
      epoch = ap (λ v. v.epoch) did.2 ∙ ap (λ n. n + 1) before.epoch;
      failed = ap (λ v. v.failed) did.2 ∙ before.failed;
      state = ap (λ v. v.state) did.2 ∙ before.state;
      no_fault = c.in_ok-checkpoint.ensures.no_fault ∙ before.no_fault;
      least = omega (arith, before.least);
      most = inr (omega (arith, c.loop-begun-test.true));
      so_far = inr (sym before.failed ∙ did.0, omega (arith, before.least));
    }

pub returns-then-epoch-clause-continues : goal.returns-then-epoch-clause-continues
returns-then-epoch-clause-continues g c = continues_begins g.K.Kept.kept g.D.SectorDisk.disk c.args.store.now

pub returns-in_err-checkpoint-clause-continues : goal.returns-in_err-checkpoint-clause-continues
returns-in_err-checkpoint-clause-continues g c =
    continues_joins g.K.Kept.kept g.D.SectorDisk.disk c.args.store.now c.loop-begun.store c.checkpoint.new.self [] []
    c.loop-begun.invariant.continues c.checkpoint.ensures.continues

pub returns-in_err-checkpoint-clause-fault : goal.returns-in_err-checkpoint-clause-fault
returns-in_err-checkpoint-clause-fault g c =
    let so = c.loop-begun.invariant in
    let below = c.loop-begun-test.true in
    let p = err_from_is_err_and c.from_residual.result c.from_residual.ensures.1 in
    rw (p.1, p.2) (cannot-rise g.K.Kept.kept g.D.SectorDisk.disk c.args.store.now c.loop-begun.store c.checkpoint.new.self c.args.epoch
    c.loop-begun._begun _ c.in_err-checkpoint.ensures.answer so.failed so.no_fault so.so_far
    (omega (arith, so.epoch, below, c.if-epoch.false)))
