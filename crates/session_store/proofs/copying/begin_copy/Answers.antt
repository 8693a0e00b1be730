use Rattle.std.proofs.Common.{◌≤◌, true, false, arith}
use Rattle.session_store.proofs.CopyLemmas.{begun-store}
use Rattle.session_store.proofs.copying.begin_copy.Goals as goal

pub invariant_of-t-10 : goal.invariant_of-t-10
invariant_of-t-10 g c =
    let disk = g.D.SectorDisk.disk in
    let large : 2048 ≤ disk.count c.write_snapshot.new.disk = omega (arith, c.write_snapshot.ensures.remains.count, c.requires.sectors) in
    begun-store g.K.Kept.kept disk c.write_snapshot.new.disk c.args.base c.args.state _ c.args.epoch false
    c.requires.same c.new.ensures large c.requires.some_epoch c.ranges.epoch.fits

pub invariant_of-result : goal.invariant_of-result
invariant_of-result g c =
    let disk = g.D.SectorDisk.disk in
    let large : 2048 ≤ disk.count c.write_snapshot.new.disk = omega (arith, c.write_snapshot.ensures.remains.count, c.requires.sectors) in
    begun-store g.K.Kept.kept disk c.write_snapshot.new.disk c.args.base c.args.state _ c.args.epoch true
    c.requires.same c.new-in-Err.ensures large c.requires.some_epoch c.ranges.epoch.fits
