use Rattle.std.proofs.Common.{◌≤◌, arith}
use Rattle.session_store.proofs.OpenLemmas.{first-is, opened-store}
use Rattle.session_store.proofs.recovering.Recovered.begin.Goals as goal

pub invariant_of-result : goal.invariant_of-result
invariant_of-result g c =
    let disk = g.D.SectorDisk.disk in
    let large : 2048 ≤ disk.count c.write_snapshot.new.disk = omega (arith, c.write_snapshot.ensures.remains.count, c.requires.sectors) in
    opened-store g.K.Kept.kept disk c.write_snapshot.new.disk c.args.self.base c.args.self.state _ c.args.self.epoch
    c.requires.same c.new.ensures large c.requires.more

pub returns-in-Ok-clause-begins : goal.returns-in-Ok-clause-begins
returns-in-Ok-clause-begins g c = record {
  is = first-is g.K.Kept.kept g.D.SectorDisk.disk c.write_snapshot.new.disk _ _ _ _ c.requires.same c.new.ensures;
  snapshot = c.in-Ok.ensures;
}
