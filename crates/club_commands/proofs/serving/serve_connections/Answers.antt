use Rattle.std.proofs.Common.{◌∙◌, suc, ap, arith, inl, inr, refl, sym}
use Rattle.std.proofs.lemmas.Result.{err_from_is_err_and}
use Rattle.table_server.proofs.FaultLemmas.{no_fault, same_store, fails_on, met_none, met_one}
use Rattle.club_commands.specs.declared.fault.RunFault.TheVariants.{Stream as StreamFault}
use Rattle.club_commands.proofs.Connected.{with_same_store}
use Rattle.club_commands.proofs.serving.serve_connections.Goals as goal

pub loop-count-init : goal.loop-count-init
loop-count-init g c = record {
  served = (0, omega arith, refl);
  ready = λ works. c.requires.none_pending;
  faults = no_fault g.D.SectorDisk.disk c.args.store.now;
}

pub returns-then-has_failed : goal.returns-then-has_failed
returns-then-has_failed g c =
    let start = c.args.store.now in
    let last = c.loop-count.store in
    let before = c.loop-count.invariant.served in
    let failed = sym c.has_failed.ensures ∙ c.if-has_failed.true in (
      before.0,
      omega (arith, before.1),
      before.2,
      inr (failed, met_one g.D.SectorDisk.disk start last c.loop-count.invariant.faults c.requires.works failed, refl),
    )

pub returns-then-left-eq0 : goal.returns-then-left-eq0
returns-then-left-eq0 g c =
    let start = c.args.store.now in
    let last = c.loop-count.store in
    let before = c.loop-count.invariant.served in
    let works = sym c.has_failed.ensures ∙ c.if-has_failed.false in (
      before.0,
      omega (arith, before.1),
      before.2,
      inl (
        works,
        met_none g.D.SectorDisk.disk start last c.loop-count.invariant.faults works,
        omega (arith, before.1, c.if-left-eq0.true),
      ),
    )

pub loop-count-preserved : goal.loop-count-preserved
loop-count-preserved g c =
    let disk = g.D.SectorDisk.disk in
    let start = c.args.store.now in
    let last = c.loop-count.store in
    let before = c.loop-count.invariant.served in record {
      served = (
        suc before.0,
        omega (arith, before.1, c.if-left-eq0.false),
        (
          last,
          before.2,
          sym c.has_failed.ensures ∙ c.if-has_failed.false,
          c.in_ok-serve_next.ensures.served,
        ),
      );
      ready = c.serve_next.ensures.ready;
      faults = fails_on disk start last c.serve_next.new.store c.loop-count.invariant.faults c.serve_next.ensures.faults;
    }

pub returns-in_err-serve_next : goal.returns-in_err-serve_next
returns-in_err-serve_next g c =
    let disk = g.D.SectorDisk.disk in
    let start = c.args.store.now in
    let last = c.loop-count.store in
    let now = c.serve_next.new.store in
    let before = c.loop-count.invariant.served in
    let same = c.in_err-serve_next.ensures.unserved in
    let works = ap (λ store. store.failed) same ∙ (sym c.has_failed.ensures ∙ c.if-has_failed.false) in
    let p = err_from_is_err_and c.from_residual.result c.from_residual.ensures.1 in
    rw p.1 (
      before.0,
      omega (arith, before.1),
      with_same_store disk g.N.Stream.Read.remaining g.N.Stream.Write.contents before.0 start last now same before.2,
      inl (
        works,
        met_none disk start now (fails_on disk start last now c.loop-count.invariant.faults (same_store disk last now same)) works,
        (omega (arith, before.1, c.if-left-eq0.false), p.2 ∙ ap StreamFault c.in_err-serve_next.ensures.fault),
      ),
    )
