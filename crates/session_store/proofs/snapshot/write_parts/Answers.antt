use Rattle.std.proofs.Common.{◌∙◌, refl, arith}
use Rattle.sector_disk.proofs.RunLaws.{begins, remains, remains_on}
use Rattle.session_store.proofs.RunLemmas.{part_on, part_there}
use Rattle.session_store.proofs.snapshot.write_parts.Goals as goal

pub returns-in_err-write_part-clause-any_moment : goal.returns-in_err-write_part-clause-any_moment
returns-in_err-write_part-clause-any_moment g c = λ honest.
    let few = g.met.K.Kept.lawful.few_parts _ c.parts-count.ensures.state in
    part_on g.D.SectorDisk.disk _ c.args.epoch _ _ _ c.loop-i.i _ _ (omega (arith, few, c.loop-i-test.true, c.parts-count.ensures.count))
    (c.loop-i.invariant.moments honest) c.write_part.ensures

pub loop-i-preserved : goal.loop-i-preserved
loop-i-preserved g c =
    let disk = g.D.SectorDisk.disk in
    let few = g.met.K.Kept.lawful.few_parts _ c.parts-count.ensures.state in
    record {
      remains = remains_on disk _ _ _ _ c.loop-i.invariant.remains c.write_part.ensures.called;
      no_fault = c.in_ok-write_part.ensures.called.faults_ok ∙ c.loop-i.invariant.no_fault;
      moments = λ honest.
          part_on disk _ c.args.epoch _ _ _ c.loop-i.i _ _ (omega (arith, few, c.loop-i-test.true, c.parts-count.ensures.count))
          (c.loop-i.invariant.moments honest) c.write_part.ensures;
      written = λ honest.
          part_there disk (disk.may_leave c.args.disk.now) c.args.epoch _ _ c.loop-i.i (g.K.Kept.kept.parts c.args.state.now) _
          (c.loop-i.invariant.moments honest).honest c.in_ok-write_part.ensures (c.loop-i.invariant.written honest);
    }

pub loop-i-init : goal.loop-i-init
loop-i-init g c =
    let disk = g.D.SectorDisk.disk in record {
      remains = remains disk c.args.disk.now;
      no_fault = refl;
      moments = λ honest. begins disk c.args.disk.now _ honest (λ image left. (image, left, λ k other. refl));
      written = λ honest k below. absurd (omega (arith, below));
    }
